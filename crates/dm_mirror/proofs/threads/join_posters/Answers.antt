use Rattle.std.proofs.Common.{arith}
use Rattle.dm_mirror.proofs.ListLemmas.{none_left, leads_end}
use Rattle.dm_mirror.proofs.threads.join_posters.Goals as goal

pub returns-clause-done : goal.returns-clause-done
returns-clause-done g c = leads_end _ _ c.loop-thread.threads.items _ (none_left c.loop-thread.threads.items (omega (arith, c.in_default.ensures.cases))) c.loop-thread.invariant.done

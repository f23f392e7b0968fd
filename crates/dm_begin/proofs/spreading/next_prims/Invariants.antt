use Rattle.std.proofs.Common.{◌≤◌}
use Rattle.dm_begin.proofs.DealLemmas.{Taken}
use Rattle.dm_begin.proofs.spreading.next_prims.Given as goal

abbrev pub invariant-loop-i : goal.invariant-loop-i
invariant-loop-i g l = Taken l.fn.queue.items l.i l.prims.items l.queue.items × (l.i ≤ l.fn.count)

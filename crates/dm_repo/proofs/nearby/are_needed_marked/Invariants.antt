use Rattle.dm_repo.proofs.Telling.{NeededUpTo}
use Rattle.dm_repo.proofs.nearby.are_needed_marked.Given as goal

abbrev pub invariant-loop-k : goal.invariant-loop-k
invariant-loop-k g l = NeededUpTo l.repo.patches l.fn.kept l.common l.marks l.k

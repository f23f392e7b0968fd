use Rattle.std.proofs.Common.{◌≡◌, length}
use Rattle.dm_repo.proofs.nearby.mark_named.Given as goal

abbrev pub invariant-loop-info : goal.invariant-loop-info
invariant-loop-info g l = length l.marks ≡ length l.initial.marks

use Rattle.std.proofs.Common.{◌≡◌, length}
use Rattle.dm_repo.proofs.nearby.mark_common.Given as goal

abbrev pub invariant-loop-k : goal.invariant-loop-k
invariant-loop-k g l = length l.marks ≡ length l.initial.marks

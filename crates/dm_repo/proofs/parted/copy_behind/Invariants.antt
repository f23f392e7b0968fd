use Rattle.std.proofs.Common.{◌≡◌, ◌++◌}
use Rattle.dm_repo.specs.Nearby.{behind}
use Rattle.dm_repo.proofs.parted.copy_behind.Given as goal

abbrev pub invariant-loop-k : goal.invariant-loop-k
invariant-loop-k g l = l.copies.items ++ behind l.k l.patches ≡ behind l.kept l.patches

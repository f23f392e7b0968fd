use Rattle.std.proofs.Common.{◌≡◌, ◌++◌}
use Rattle.dm_repo.specs.Nearby.{behind, marked}
use Rattle.dm_repo.proofs.parted.copy_marked.Given as goal

abbrev pub invariant-loop-k : goal.invariant-loop-k
invariant-loop-k g l = l.copies.items ++ marked l.near (behind l.k l.patches) ≡ marked l.near (behind l.kept l.patches)

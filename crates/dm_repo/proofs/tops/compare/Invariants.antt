use Rattle.std.proofs.Common.{◌≡◌, drop}
use Rattle.dm_tree.specs.Trees.{path_cmp}
use Rattle.dm_repo.proofs.tops.compare.Given as goal

abbrev pub invariant-loop-i : goal.invariant-loop-i
invariant-loop-i g l = path_cmp l.left l.right ≡ path_cmp (drop l.i l.left) (drop l.i l.right)

use Rattle.std.proofs.Common.{◌≡◌, take, drop, length}
use Rattle.dm_tree.proofs.path.begins.Given as goal

abbrev pub invariant-loop-i : goal.invariant-loop-i
invariant-loop-i g l = drop l.i (take (length l.front) l.texts) ≡ drop l.i l.front

use Rattle.std.proofs.Common.{◌≡◌, ◌+◌, ◌*◌, drop}
use Rattle.dm_tree.specs.Children.{flatten}
use Rattle.dm_tree.specs.Walks.{are_short}
use Rattle.dm_tree.proofs.rename.+short.Given as goal

abbrev pub invariant-are_short-loop-child : goal.invariant-are_short-loop-child
invariant-are_short-loop-child g l = are_short l.room (flatten l.children) ≡ are_short l.room (flatten (drop l.child-index l.children))

abbrev pub decreases-are_short : goal.decreases-are_short
decreases-are_short g l = 2 * l.room

abbrev pub decreases-is_short : goal.decreases-is_short
decreases-is_short g l = 2 * l.room + 1

use Rattle.std.proofs.Common.{◌≡◌, ◌+◌, ◌*◌, length, take}
use Rattle.dm_tree.specs.Children.{flatten}
use Rattle.dm_tree.proofs.node.+copy.Given as goal

abbrev pub invariant-copy_children-loop-child : goal.invariant-copy_children-loop-child
invariant-copy_children-loop-child g l = l.copies.items ≡ take l.child-index l.children

abbrev pub decreases-copy_node : goal.decreases-copy_node
decreases-copy_node g l = 2 * length l.node.now.under + 2

abbrev pub decreases-copy_children : goal.decreases-copy_children
decreases-copy_children g l = 2 * length (flatten l.children.now) + 1

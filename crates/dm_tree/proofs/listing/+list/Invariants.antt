use Rattle.std.proofs.Common.{◌≡◌, ◌+◌, ◌*◌, ◌++◌, length, take}
use Rattle.dm_tree.specs.Children.{flatten}
use Rattle.dm_tree.specs.Walks.{listed}
use Rattle.dm_tree.proofs.Sorted.{AllSorted}
use Rattle.dm_tree.proofs.listing.+list.Given as goal

abbrev pub invariant-list_children-loop-child : goal.invariant-list_children-loop-child
invariant-list_children-loop-child g l = (l.out.items ≡ l.fn.out.items ++ listed l.above (flatten (take l.child-index l.children))) × AllSorted (take l.child-index l.children)

abbrev pub decreases-list_node : goal.decreases-list_node
decreases-list_node g l = 2 * length l.node.now.under + 2

abbrev pub decreases-list_children : goal.decreases-list_children
decreases-list_children g l = 2 * length (flatten l.children.now) + 1

use Rattle.std.proofs.Common.{◌≡◌, take}
use Rattle.dm_element.specs.Lists.{lists_of}
use Rattle.dm_element.proofs.copies.copy_lists.Given as goal

abbrev pub invariant-loop-list : goal.invariant-loop-list
invariant-loop-list g l = lists_of l.copy.items ≡ take l.list-index (lists_of l.lists)

use Rattle.std.proofs.Common.{◌≡◌, take}
use Rattle.dm_tool.specs.Held.{listed, named}
use Rattle.dm_tool.proofs.commands.running.named_lists.Given as goal

abbrev pub invariant-loop-list : goal.invariant-loop-list
invariant-loop-list l = named l.named.items ≡ listed (take l.list-index l.fn.lists)

use Rattle.std.proofs.Common.{◌≡◌, take}
use Rattle.dm_tool.specs.Posters.{bytes_of}
use Rattle.dm_tool.specs.Held.{items_of}
use Rattle.dm_tool.proofs.commands.running.slices_of.Given as goal

abbrev pub invariant-loop-text : goal.invariant-loop-text
invariant-loop-text l = bytes_of l.slices.items ≡ items_of (take l.text-index l.fn.texts)

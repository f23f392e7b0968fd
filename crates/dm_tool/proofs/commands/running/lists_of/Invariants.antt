use Rattle.std.proofs.Common.{◌≡◌, ◌++◌}
use Rattle.dm_tool.specs.Held.{listed, held}
use Rattle.dm_tool.proofs.commands.running.lists_of.Given as goal

abbrev pub invariant-loop-poster : goal.invariant-loop-poster
invariant-loop-poster l = listed l.lists.items ++ held l.poster-iterator ≡ held l.fn.posters.entries

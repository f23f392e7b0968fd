use Rattle.std.proofs.Common.{take}
use Rattle.dm_tool.specs.Posters.{AreSplit, bytes_of}
use Rattle.dm_tool.specs.Held.{words_in}
use Rattle.dm_tool.proofs.commands.running.split_words.Given as goal

abbrev pub invariant-loop-word : goal.invariant-loop-word
invariant-loop-word l = AreSplit (bytes_of (take l.word-index l.fn.words)) (words_in l.pairs.items)

use Rattle.std.proofs.Common.{◌≡◌, List, take}
use Rattle.dm_tool.specs.Posters.{AreRead, ReadWord, by_poster}
use Rattle.dm_tool.specs.Held.{posters_in}
use Rattle.dm_tool.proofs.commands.running.read_posters.Given as goal

abbrev pub invariant-loop-word : goal.invariant-loop-word
invariant-loop-word g l = (read_words : List ReadWord) × AreRead (g.F.Files.had l.files) (take l.word-index l.fn.words) read_words × (posters_in l.posters ≡ by_poster read_words)

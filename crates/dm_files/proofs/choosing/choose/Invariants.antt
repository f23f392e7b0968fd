use Rattle.std.proofs.Common.{map, take}
use Rattle.dm_bundle.specs.Patches.{infos_of}
use Rattle.dm_files.specs.Choosing.{Chooses}
use Rattle.dm_files.proofs.ChoosingLemmas.{bytes_of}
use Rattle.dm_files.proofs.choosing.choose.Given as goal

abbrev pub invariant-loop-word : goal.invariant-loop-word
invariant-loop-word l = Chooses (infos_of l.repo.patches) (map bytes_of (take l.word-index l.words)) l.names.items

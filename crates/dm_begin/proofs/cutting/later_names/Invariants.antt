use Rattle.std.proofs.Common.{take}
use Rattle.dm_bundle.specs.Patches.{infos_of}
use Rattle.dm_begin.specs.Bases.{Without}
use Rattle.dm_begin.proofs.cutting.later_names.Given as goal

abbrev pub invariant-loop-name : goal.invariant-loop-name
invariant-loop-name g l = Without (take l.count (infos_of l.repo.patches)) (take l.name-index l.names) l.left.items

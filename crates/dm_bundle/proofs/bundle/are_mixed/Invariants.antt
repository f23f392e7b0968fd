use Rattle.std.proofs.Common.{take}
use Rattle.dm_bundle.specs.Patches.{infos_of}
use Rattle.dm_bundle.specs.Context.{AreDisjoint}
use Rattle.dm_bundle.proofs.bundle.are_mixed.Given as goal

abbrev pub invariant-loop-info : goal.invariant-loop-info
invariant-loop-info g l = AreDisjoint (infos_of l.patches) (take l.info-index l.context)

use Rattle.std.proofs.Common.{take}
use Rattle.std.specs.List.{flat_map}
use Rattle.dm_prim.specs.Prims.{prims_of}
use Rattle.dm_prim.specs.Touch.{paths_of}
use Rattle.dm_log.specs.Collecting.{AddsPaths}
use Rattle.dm_log.proofs.paths.PathLines.add_prims.Given as goal

abbrev pub invariant-loop-prim : goal.invariant-loop-prim
invariant-loop-prim g l = AddsPaths (flat_map paths_of (take l.prim-index (prims_of l.prims))) l.fn.self l.self

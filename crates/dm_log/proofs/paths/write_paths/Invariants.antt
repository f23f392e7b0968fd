use Rattle.std.proofs.Common.{take}
use Rattle.std.specs.List.{flat_map}
use Rattle.dm_prim.specs.Touch.{paths_of}
use Rattle.dm_log.specs.Touched.{prims_in}
use Rattle.dm_log.specs.Collecting.{Collects}
use Rattle.dm_log.proofs.paths.write_paths.Given as goal

abbrev pub invariant-loop-k : goal.invariant-loop-k
invariant-loop-k g l = Collects (flat_map paths_of (prims_in (take l.k (g.P.Patches.patches l.patches)))) l.lines

use Rattle.std.proofs.Common.{take}
use Rattle.dm_prim.specs.Sketches.{Covers}
use Rattle.dm_prim.proofs.sketch.Sketch.of.Given as goal

abbrev pub invariant-loop-path : goal.invariant-loop-path
invariant-loop-path g l = Covers (take l.path-index l.paths) l.sketch

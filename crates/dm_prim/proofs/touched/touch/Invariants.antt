use Rattle.std.proofs.Common.{take}
use Rattle.dm_prim.specs.Prims.{prims_of}
use Rattle.dm_prim.specs.Touch.{Touches}
use Rattle.dm_prim.proofs.touched.touch.Given as goal

abbrev pub invariant-loop-prim : goal.invariant-loop-prim
invariant-loop-prim g l = Touches (take l.prim-index (prims_of l.prims)) l.touched

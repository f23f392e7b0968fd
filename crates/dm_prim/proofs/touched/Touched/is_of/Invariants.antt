use Rattle.std.proofs.Common.{take, All}
use Rattle.dm_prim.specs.Prims.{prims_of}
use Rattle.dm_prim.specs.Commuting.{IsValidPrim}
use Rattle.dm_prim.specs.Touch.{NamesAmong}
use Rattle.dm_prim.proofs.touched.Touched.is_of.Given as goal

abbrev pub invariant-loop-prim : goal.invariant-loop-prim
invariant-loop-prim g l = All IsValidPrim (take l.prim-index (prims_of l.prims)) × All (NamesAmong l.paths) (take l.prim-index (prims_of l.prims))

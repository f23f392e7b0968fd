use Rattle.std.proofs.Common.{take}
use Rattle.dm_prim.specs.Prims.{prims_of}
use Rattle.dm_prim.specs.Touch.{IsTouched}
use Rattle.dm_prim.proofs.touched.is_named.Given as goal

abbrev pub invariant-loop-prim : goal.invariant-loop-prim
invariant-loop-prim g l = IsTouched (take l.prim-index (prims_of l.prims)) l.fn.path → ⊥

use Rattle.std.proofs.Common.{take, All}
use Rattle.dm_prim.specs.Prims.{prims_of}
use Rattle.dm_prim.specs.Touch.{IsNamedAmong}
use Rattle.dm_prim.proofs.touched.are_all_named.Given as goal

abbrev pub invariant-loop-path : goal.invariant-loop-path
invariant-loop-path g l = All (IsNamedAmong (prims_of l.fn.prims)) (take l.path-index l.paths)

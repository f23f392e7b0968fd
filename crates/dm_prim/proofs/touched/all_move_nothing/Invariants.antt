use Rattle.std.proofs.Common.{take, All}
use Rattle.dm_prim.specs.Prims.{MovesNothing, prims_of}
use Rattle.dm_prim.proofs.touched.all_move_nothing.Given as goal

abbrev pub invariant-loop-prim : goal.invariant-loop-prim
invariant-loop-prim g l = All MovesNothing (take l.prim-index (prims_of l.prims))

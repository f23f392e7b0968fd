use Rattle.std.proofs.Common.{take, All}
use Rattle.dm_prim.specs.Prims.{prims_of}
use Rattle.dm_prim.specs.Table.{MovesOutside}
use Rattle.dm_prim.proofs.touched.all_move_outside.Given as goal

abbrev pub invariant-loop-prim : goal.invariant-loop-prim
invariant-loop-prim g l = All MovesOutside (take l.prim-index (prims_of l.prims))

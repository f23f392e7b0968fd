use Rattle.std.proofs.Common.{take, All}
use Rattle.dm_prim.specs.Touch.{IsApartFrom}
use Rattle.dm_prim.proofs.touched.all_apart.Given as goal

abbrev pub invariant-loop-path : goal.invariant-loop-path
invariant-loop-path g l = All (IsApartFrom l.fn.others) (take l.path-index l.paths)

use Rattle.std.proofs.Common.{◌≡◌, take}
use Rattle.dm_prim.specs.Prims.{prims_of}
use Rattle.dm_agree.proofs.same.same_prims.Given as goal

abbrev pub invariant-loop-i : goal.invariant-loop-i
invariant-loop-i g l = prims_of (take l.i l.xs) ≡ prims_of (take l.i l.ys)

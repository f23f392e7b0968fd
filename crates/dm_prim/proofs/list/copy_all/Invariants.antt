use Rattle.std.proofs.Common.{◌≡◌, take}
use Rattle.dm_prim.specs.Prims.{prims_of}
use Rattle.dm_prim.proofs.list.copy_all.Given as goal

abbrev pub invariant-loop-prim : goal.invariant-loop-prim
invariant-loop-prim g l = prims_of l.copy.items ≡ take l.prim-index (prims_of l.prims)

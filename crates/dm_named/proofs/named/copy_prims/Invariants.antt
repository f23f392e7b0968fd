use Rattle.std.proofs.Common.{◌≡◌, take}
use Rattle.dm_prim.specs.Prims.{prims_of}
use Rattle.dm_named.proofs.named.copy_prims.Given as goal

abbrev pub invariant-loop-prim : goal.invariant-loop-prim
invariant-loop-prim g l = prims_of l.copies.items ≡ prims_of (take l.prim-index l.prims)

use Rattle.std.proofs.Common.{◌≡◌, take}
use Rattle.dm_prim.specs.Prims.{prims_of}
use Rattle.dm_element.proofs.copies.copy_prims.Given as goal

abbrev pub invariant-loop-prim : goal.invariant-loop-prim
invariant-loop-prim g l = prims_of l.copy.items ≡ take l.prim-index (prims_of l.prims)

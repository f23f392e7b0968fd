use Rattle.std.proofs.Common.{take}
use Rattle.dm_named.specs.Kinds.{AreOf}
use Rattle.dm_prim.specs.Prims.{prims_of}
use Rattle.dm_store.proofs.kinds.prims_are_of.Given as goal

abbrev pub invariant-loop-prim : goal.invariant-loop-prim
invariant-loop-prim l = AreOf l.kinds (prims_of (take l.prim-index l.prims))

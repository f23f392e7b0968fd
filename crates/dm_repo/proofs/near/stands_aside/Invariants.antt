use Rattle.std.proofs.Common.{take, All}
use Rattle.dm_prim.specs.Prims.{prims_of}
use Rattle.dm_repo.proofs.Nearness.{IsAsidePrim}
use Rattle.dm_repo.proofs.near.stands_aside.Given as goal

abbrev pub invariant-loop-prim : goal.invariant-loop-prim
invariant-loop-prim g l = All (IsAsidePrim l.fn.tops) (take l.prim-index (prims_of l.prims))

use Rattle.std.proofs.Common.{take, All}
use Rattle.dm_repo.specs.Aside.{StandsNear}
use Rattle.dm_repo.proofs.near.stand_near.Given as goal

abbrev pub invariant-loop-patch : goal.invariant-loop-patch
invariant-loop-patch g l = All (StandsNear l.fn.tops) (take l.patch-index l.list)

use Rattle.std.proofs.Common.{take}
use Rattle.dm_repo.specs.Glances.{AreGlancesOf}
use Rattle.dm_repo.proofs.repo.glances_of.Given as goal

abbrev pub invariant-loop-patch : goal.invariant-loop-patch
invariant-loop-patch g l = AreGlancesOf (take l.patch-index l.patches) l.glances.items

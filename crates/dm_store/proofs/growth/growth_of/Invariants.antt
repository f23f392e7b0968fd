use Rattle.std.proofs.Common.{take}
use Rattle.dm_store.specs.Growth.{IsGrowthOf}
use Rattle.dm_store.proofs.growth.growth_of.Given as goal

abbrev pub invariant-loop-i : goal.invariant-loop-i
invariant-loop-i l = IsGrowthOf (take l.i l.fn.entries) l.growth

use Rattle.std.proofs.Common.{take}
use Rattle.dm_repo.specs.CommonSets.{HoldsAll}
use Rattle.dm_begin.proofs.sharing.are_held.Given as goal

abbrev pub invariant-loop-name : goal.invariant-loop-name
invariant-loop-name g l = HoldsAll l.repo.patches (take l.name-index l.names)

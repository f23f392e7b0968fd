use Rattle.std.proofs.Common.{take}
use Rattle.dm_agree.proofs.Owning.{Sorted}
use Rattle.dm_agree.proofs.names.shared_name.Given as goal

abbrev pub invariant-loop-place : goal.invariant-loop-place
invariant-loop-place g l = Sorted l.owners (take l.place l.bundles) l.base.patches

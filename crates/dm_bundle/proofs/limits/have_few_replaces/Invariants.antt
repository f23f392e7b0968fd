use Rattle.std.proofs.Common.{take}
use Rattle.dm_bundle.specs.Room.{LeavesRoom}
use Rattle.dm_bundle.proofs.limits.have_few_replaces.Given as goal

abbrev pub invariant-loop-patch : goal.invariant-loop-patch
invariant-loop-patch g l = LeavesRoom l.limits (take l.patch-index l.patches) l.room

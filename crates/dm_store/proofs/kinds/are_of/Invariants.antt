use Rattle.std.proofs.Common.{take}
use Rattle.dm_bundle.specs.Patches.{AreAllOf}
use Rattle.dm_store.proofs.kinds.are_of.Given as goal

abbrev pub invariant-loop-patch : goal.invariant-loop-patch
invariant-loop-patch l = AreAllOf l.kinds (take l.patch-index l.patches)

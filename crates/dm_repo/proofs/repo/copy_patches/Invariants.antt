use Rattle.std.proofs.Common.{◌≡◌, take}
use Rattle.dm_repo.proofs.repo.copy_patches.Given as goal

abbrev pub invariant-loop-patch : goal.invariant-loop-patch
invariant-loop-patch g l = l.copies.items ≡ take l.patch-index l.patches

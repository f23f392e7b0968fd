use Rattle.std.proofs.Common.{take}
use Rattle.dm_bundle.specs.Patches.{infos_of}
use Rattle.dm_explain.specs.Fates.{lent}
use Rattle.dm_explain.proofs.FateLemmas.{SoFar}
use Rattle.dm_explain.proofs.fates.fates_of.Given as goal

abbrev pub invariant-loop-patch : goal.invariant-loop-patch
invariant-loop-patch l = SoFar l.repo.patches l.before (infos_of (take l.patch-index l.patch-items)) (lent l.held.items) (lent l.taken.items) (lent l.skipped.items)

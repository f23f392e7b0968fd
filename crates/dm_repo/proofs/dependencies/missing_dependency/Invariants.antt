use Rattle.std.proofs.Common.{take}
use Rattle.std.specs.Prelude.{Contains}
use Rattle.dm_info.specs.PatchInfo.{PatchInfo}
use Rattle.dm_repo.specs.CommonSets.{IsKnown}
use Rattle.dm_repo.proofs.dependencies.missing_dependency.Given as goal

abbrev pub invariant-loop-d : goal.invariant-loop-d
invariant-loop-d g l = (i : PatchInfo) → Contains (take l.d l.dependencies) i → IsKnown l.repo.patches l.bundle l.n i

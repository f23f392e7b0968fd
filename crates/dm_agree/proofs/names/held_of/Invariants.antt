use Rattle.std.proofs.Common.{take}
use Rattle.dm_info.specs.PatchInfo.{PatchInfo}
use Rattle.dm_repo.specs.Repositories.{Holds}
use Rattle.dm_agree.proofs.names.held_of.Given as goal

abbrev pub invariant-loop-k : goal.invariant-loop-k
invariant-loop-k g l = (i : PatchInfo) → Holds (take l.k l.patches) i → Holds l.repo.patches i → ⊥

use Rattle.std.proofs.Common.{take, ◌↔◌}
use Rattle.std.specs.List.{Contains}
use Rattle.dm_info.specs.PatchInfo.{PatchInfo}
use Rattle.dm_repo.specs.Repositories.{Holds}
use Rattle.dm_send.proofs.shared.held_names.Given as goal

abbrev pub invariant-loop-name : goal.invariant-loop-name
invariant-loop-name g l = (i : PatchInfo) → Contains l.held.items i ↔ (Contains (take l.name-index l.names) i × Holds l.repo.patches i)

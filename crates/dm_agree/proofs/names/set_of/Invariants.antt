use Rattle.std.proofs.Common.{◌↔◌, take}
use Rattle.std.specs.List.{Contains}
use Rattle.dm_info.specs.PatchInfo.{PatchInfo}
use Rattle.dm_agree.proofs.names.set_of.Given as goal

abbrev pub invariant-loop-info : goal.invariant-loop-info
invariant-loop-info g l = (i : PatchInfo) → Contains l.set.keys i ↔ Contains (take l.info-index l.infos) i

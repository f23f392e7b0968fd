use Rattle.std.proofs.Common.{◌≡◌, List, map, take}
use Rattle.serde_json.specs.Data.{string}
use Rattle.serde_json.specs.View.{view}
use Rattle.dm_info.specs.PatchInfo.{PatchInfo}
use Rattle.dm_log.specs.Finding.{hash_text}
use Rattle.dm_rests.specs.Rests.{Directly}
use Rattle.dm_rests.proofs.lines.direct_value.Given as goal

abbrev pub invariant-loop-pair : goal.invariant-loop-pair
invariant-loop-pair l = (names : List PatchInfo) × Directly l.info (take l.pair-index l.bound) names × (map view l.list.items ≡ map (λ i. string (hash_text i)) names)

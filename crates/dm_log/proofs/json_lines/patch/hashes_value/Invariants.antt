use Rattle.std.proofs.Common.{◌≡◌, map, take}
use Rattle.serde_json.specs.Data.{string}
use Rattle.serde_json.specs.View.{view}
use Rattle.dm_log.specs.Finding.{hash_text}
use Rattle.dm_log.proofs.json_lines.patch.hashes_value.Given as goal

abbrev pub invariant-loop-info : goal.invariant-loop-info
invariant-loop-info g l = map view l.list.items ≡ map (λ i. string (hash_text i)) (take l.info-index l.infos)

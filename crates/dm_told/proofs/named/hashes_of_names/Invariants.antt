use Rattle.std.proofs.Common.{◌≡◌, map, take}
use Rattle.serde_json.specs.Data.{string}
use Rattle.serde_json.specs.View.{view}
use Rattle.dm_explain.specs.Fates.{lent}
use Rattle.dm_log.specs.Finding.{hash_text}
use Rattle.dm_told.proofs.named.hashes_of_names.Given as goal

abbrev pub invariant-loop-name : goal.invariant-loop-name
invariant-loop-name l = map view l.list.items ≡ map (λ i. string (hash_text i)) (lent (take l.name-index l.names))

use Rattle.std.proofs.Common.{◌≡◌, map, take}
use Rattle.serde_json.specs.Data.{string}
use Rattle.serde_json.specs.View.{view}
use Rattle.dm_log.specs.Finding.{hash_text}
use Rattle.dm_told.proofs.named.hashes_of_first.Given as goal

abbrev pub invariant-loop-pair : goal.invariant-loop-pair
invariant-loop-pair l = map view l.list.items ≡ map (λ i. string (hash_text i)) (map (λ p. p.0) (take l.pair-index l.pairs))

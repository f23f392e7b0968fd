use Rattle.std.proofs.Common.{◌≡◌, map, take}
use Rattle.serde_json.specs.Data.{string}
use Rattle.serde_json.specs.View.{view}
use Rattle.dm_bundle.specs.Patches.{infos_of}
use Rattle.dm_log.specs.Finding.{hash_text}
use Rattle.dm_told.proofs.named.hashes_of.Given as goal

abbrev pub invariant-loop-patch : goal.invariant-loop-patch
invariant-loop-patch l = map view l.list.items ≡ map (λ i. string (hash_text i)) (infos_of (take l.patch-index l.patches))

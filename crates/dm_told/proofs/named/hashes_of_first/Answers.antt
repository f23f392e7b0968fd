use Rattle.std.proofs.Common.{◌+◌, map, take}
use Rattle.serde_json.specs.Data.{string}
use Rattle.dm_log.specs.Finding.{hash_text}
use Rattle.dm_log.proofs.JsonLemmas.{values_more}
use Rattle.dm_told.proofs.PatchLemmas.{firsts_turn, hashes_end}
use Rattle.dm_told.proofs.named.hashes_of_first.Goals as goal

pub loop-pair-preserved : goal.loop-pair-preserved
loop-pair-preserved c =
    let pairs = c.args.pairs.now in
    let k = c.loop-pair.pair-index in
    values_more (λ i. string (hash_text i)) (map (λ p. p.0) (take k pairs)) (map (λ p. p.0) (take (k + 1) pairs)) c.pair-item.result.0 c.loop-pair.list.items c.push.new.self.items c.in_ok-hash_value.field-0
    (firsts_turn pairs k c.pair-item.result c.loop-pair-test.true c.pair-item.is) c.loop-pair.invariant c.in_ok-push.ensures.items c.in_ok-hash_value.ensures

pub returns : goal.returns
returns c = hashes_end (map (λ p. p.0)) c.args.pairs.now c.loop-pair.pair-index c.loop-pair.list c.loop-pair-test.false c.loop-pair.invariant

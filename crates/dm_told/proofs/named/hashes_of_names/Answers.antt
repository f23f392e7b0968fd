use Rattle.std.proofs.Common.{◌+◌, take}
use Rattle.serde_json.specs.Data.{string}
use Rattle.dm_explain.specs.Fates.{lent}
use Rattle.dm_log.specs.Finding.{hash_text}
use Rattle.dm_log.proofs.JsonLemmas.{values_more}
use Rattle.dm_told.proofs.PatchLemmas.{hashes_end, lent_turn}
use Rattle.dm_told.proofs.named.hashes_of_names.Goals as goal

pub loop-name-preserved : goal.loop-name-preserved
loop-name-preserved c =
    let names = c.args.names.now in
    let k = c.loop-name.name-index in
    values_more (λ i. string (hash_text i)) (lent (take k names)) (lent (take (k + 1) names)) c.name-item.result.now c.loop-name.list.items c.push.new.self.items c.in_ok-hash_value.field-0
    (lent_turn names k c.name-item.result c.loop-name-test.true c.name-item.is) c.loop-name.invariant c.in_ok-push.ensures.items c.in_ok-hash_value.ensures

pub returns : goal.returns
returns c = hashes_end lent c.args.names.now c.loop-name.name-index c.loop-name.list c.loop-name-test.false c.loop-name.invariant

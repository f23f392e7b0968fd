use Rattle.std.proofs.Common.{◌≡◌, ◌∙◌, ap}
use Rattle.serde_json.specs.Data.{string}
use Rattle.dm_log.specs.Finding.{hash_text}
use Rattle.dm_log.proofs.JsonLemmas.{values_end, values_turn}
use Rattle.dm_log.proofs.json_lines.patch.hashes_value.Goals as goal

pub loop-info-preserved : goal.loop-info-preserved
loop-info-preserved g c =
    let infos = c.args.infos.now in
    values_turn (λ i. string (hash_text i)) infos c.loop-info.info-index c.info-item.result c.loop-info.list.items c.push.new.self.items c.in_ok-hash_value.field-0
    c.loop-info-test.true c.loop-info.invariant c.in_ok-push.ensures.items
    (c.in_ok-hash_value.ensures ∙ ap (λ i. string (hash_text i)) c.info-item.is)

pub returns : goal.returns
returns g c = values_end (λ i. string (hash_text i)) c.args.infos.now c.loop-info.info-index c.loop-info.list c.loop-info-test.false c.loop-info.invariant

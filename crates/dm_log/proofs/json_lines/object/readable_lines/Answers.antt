use Rattle.std.proofs.Common.{◌≡◌, ◌<◌, ◌≤◌, ◌∙◌, [], length, ap, arith}
use Rattle.serde_json.specs.Data.{string}
use Rattle.dm_log.specs.Json.{readable}
use Rattle.dm_log.proofs.JsonLemmas.{values_end, values_turn}
use Rattle.dm_log.proofs.json_lines.object.readable_lines.Goals as goal

pub loop-i-preserved : goal.loop-i-preserved
loop-i-preserved g c =
    let lines = c.args.lines.now in
    let within : c.loop-i.i < length lines = omega (arith, c.loop-i-test.true, c.len-i-end.ensures.value) in
    values_turn (λ t. string (readable t)) lines c.loop-i.i [] c.loop-i.list.items c.push.new.self.items c.in_ok-readable_value.field-0 within c.loop-i.invariant c.in_ok-push.ensures.items
    (c.in_ok-readable_value.ensures ∙ ap (λ t. string (readable t)) c.line.ensures)

pub returns : goal.returns
returns g c =
    let lines = c.args.lines.now in
    let done : length lines ≤ c.loop-i.i = omega (arith, c.loop-i-test.false, c.len-i-end.ensures.value) in
    values_end (λ t. string (readable t)) lines c.loop-i.i c.loop-i.list done c.loop-i.invariant

use Rattle.std.proofs.Common.{◌<◌, ◌≤◌, ◌∙◌, length, ap, arith, take_all}
use Rattle.dm_log.specs.Json.{told}
use Rattle.dm_log.proofs.JsonLemmas.{line_plain, told_turn}
use Rattle.dm_log.proofs.json_lines.patch.told_lines.Goals as goal

pub loop-i-preserved : goal.loop-i-preserved
loop-i-preserved g c =
    let log = c.args.info.now.log in
    let within : c.loop-i.i < length log = omega (arith, c.loop-i-test.true, c.log_len-i-end.ensures.value) in
    told_turn log c.loop-i.i c.loop-i.lines c.push_told.new.lines c.log_line.result.now within c.loop-i.invariant c.log_line.ensures c.in_ok-push_told.ensures

pub push_told-requires : goal.push_told-requires
push_told-requires g c =
    let log = c.args.info.now.log in
    let within : c.loop-i.i < length log = omega (arith, c.loop-i-test.true, c.log_len-i-end.ensures.value) in
    rw c.log_line.ensures (line_plain log c.loop-i.i c.log_len-i-end.ensures.valid.log within)

pub returns : goal.returns
returns g c =
    let log = c.args.info.now.log in
    let done : length log ≤ c.loop-i.i = omega (arith, c.loop-i-test.false, c.log_len-i-end.ensures.value) in
    c.loop-i.invariant ∙ ap told (take_all c.loop-i.i log done)

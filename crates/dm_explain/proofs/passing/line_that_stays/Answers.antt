use Rattle.std.proofs.Common.{◌<◌, length, arith}
use Rattle.dm_tokens.specs.Sets.{in_table}
use Rattle.dm_explain.proofs.TokenLemmas.{one_more, this_stays}
use Rattle.dm_explain.proofs.passing.line_that_stays.Goals as goal

pub returns-in-Nothing : goal.returns-in-Nothing
returns-in-Nothing c =
    let s = in_table c.token_set-set.result in
    let there : c.loop-i.i < length c.args.lines.now = omega (arith, c.loop-i-test.true, c.len-i-end.ensures.value) in
    let turned = rw c.in-Nothing.is at (rw (c.old.ensures, c.new_token.ensures) at c.turns.ensures) in
    this_stays c.args.tokens.now s c.token_set-set.ensures.set c.args.lines.now c.loop-i.i c.line-line.result.now there c.line-line.ensures turned

pub loop-i-preserved : goal.loop-i-preserved
loop-i-preserved c =
    let s = in_table c.token_set-set.result in
    let there : c.loop-i.i < length c.args.lines.now = omega (arith, c.loop-i-test.true, c.len-i-end.ensures.value) in
    let turned = rw (c.old.ensures, c.new_token.ensures) at c.turns.ensures in
    one_more c.args.tokens.now s c.token_set-set.ensures.set c.args.lines.now c.loop-i.i c.line-line.result.now there c.line-line.ensures c.turns.result turned c.in_default.not-Nothing c.loop-i.invariant

use Rattle.std.proofs.Common.{◌≡◌, true, false, rules, arith}
use Rattle.dm_info.specs.Compared.{text_eq}
use Rattle.dm_info.proofs.SameLines.{counts_differ, lines_differ, lines_more, lines_end}
use Rattle.dm_info.proofs.info.are_same_lines.Goals as goal

pub returns-then-count-ys : goal.returns-then-count-ys
returns-then-count-ys g c = counts_differ (λ l. l.items) (λ l. l.items) c.args.xs.now c.args.ys.now c.if-count-ys.true

pub returns-then-ne : goal.returns-then-ne
returns-then-ne g c =
    let differ : text_eq c.as_slice.result.now c.as_slice-in-loop-i.result.now ≡ false = search rules in
    lines_differ (λ l. l.items) (λ l. l.items) c.args.xs.now c.args.ys.now c.loop-i.i c.index-xs-i.result c.index-ys-i.result c.loop-i-test.true (omega arith) c.index-xs-i.is c.index-ys-i.is c.loop-i.invariant
    (rw (c.as_slice.ensures.value, c.as_slice-in-loop-i.ensures.value) at differ)

pub loop-i-preserved : goal.loop-i-preserved
loop-i-preserved g c =
    let same : text_eq c.as_slice.result.now c.as_slice-in-loop-i.result.now ≡ true = search rules in
    lines_more (λ l. l.items) (λ l. l.items) c.args.xs.now c.args.ys.now c.loop-i.i c.index-xs-i.result c.index-ys-i.result c.loop-i-test.true (omega arith) c.index-xs-i.is c.index-ys-i.is c.loop-i.invariant
    (rw (c.as_slice.ensures.value, c.as_slice-in-loop-i.ensures.value) at same)

pub returns : goal.returns
returns g c = lines_end (λ l. l.items) (λ l. l.items) c.args.xs.now c.args.ys.now c.loop-i.i c.loop-i-test.false (omega arith) c.loop-i.invariant

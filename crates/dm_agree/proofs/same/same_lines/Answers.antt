use Rattle.std.proofs.Common.{[], refl, sym, ◌∙◌, ◌<◌, length, arith}
use Rattle.std.proofs.lemmas.List.{take_more_same}
use Rattle.dm_agree.proofs.same.same_lines.Goals as goal

pub loop-i-preserved : goal.loop-i-preserved
loop-i-preserved g c =
    let l : c.loop-i.i < length c.args.xs.now = omega (arith, c.loop-i-test.true, c.len-i-end.ensures.value) in
    let m : c.loop-i.i < length c.args.ys.now = omega (arith, l, c.len.ensures.value, c.len-2.ensures.value, c.if-len.false) in
    take_more_same c.args.xs.now c.args.ys.now c.loop-i.i [] l m c.loop-i.invariant (sym c.line.ensures ∙ c.if-not-same_bytes.ensures.0 refl ∙ c.line-in-loop-i.ensures)

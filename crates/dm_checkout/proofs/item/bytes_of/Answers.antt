use Rattle.std.proofs.Common.{inl, inr, ap, ◌∙◌, ◌<◌, length, arith}
use Rattle.dm_checkout.proofs.LineLemmas.{file_turn}
use Rattle.dm_checkout.proofs.item.bytes_of.Goals as goal
use Rattle.dm_checkout.proofs.item.bytes_of.Goals.{then-i-gt0+in_ok-push, else-i-gt0}

pub loop-i-preserved : goal.loop-i-preserved
loop-i-preserved g c =
    let within : c.loop-i.i < length c.args.file.now = omega (arith, c.loop-i-test.true, c.count-i-end.ensures) in
    file_turn c.args.file.now c.loop-i.i c.line.result.now c.loop-i.bytes.items c.if-i-gt0.bytes.items c.extend_from_slice.new.self.items within c.line.ensures c.loop-i.invariant
    (elim c.if-i-gt0.branch [ then-i-gt0+in_ok-push w ↦ inl (w.if-i-gt0.true, ap (λ v. v.items) w.bytes-is ∙ w.in_ok-push.ensures.items) | else-i-gt0 w ↦ inr (omega (arith, w.if-i-gt0.false), ap (λ v. v.items) w.bytes-is) ])
    c.in_ok-extend_from_slice.ensures.items

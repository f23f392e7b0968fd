use Rattle.std.proofs.Common.{◌≡◌, ◌<◌, ◌≤◌, ◌⊎◌, length, sym, ◌∙◌, arith, rules}
use Rattle.std.specs.Ordering.{nat_cmp}
use Rattle.dm_repo.proofs.OrderLemmas.{differ, agree, ended}
use Rattle.dm_repo.proofs.tops.compare.Goals as goal

pub returns-then-is_ne : goal.returns-then-is_ne
returns-then-is_ne g c =
    let p = c.args.left.now in
    let q = c.args.right.now in
    let i = c.loop-i.i in
    let lp : i < length p = omega (arith, c.len.ensures.value) in
    let lq : i < length q = omega (arith, c.len-2.ensures.value) in
    differ p q i c.cmp-order.result lp lq (search rules) (sym c.is_ne.ensures ∙ c.if-is_ne.true) c.loop-i.invariant

pub returns : goal.returns
returns g c =
    let p = c.args.left.now in
    let q = c.args.right.now in
    let i = c.loop-i.i in
    let lp : i ≤ length p = omega (arith, c.len.ensures.value) in
    let lq : i ≤ length q = omega (arith, c.len-2.ensures.value) in
    let one : (length p ≤ i) ⊎ (length q ≤ i) = grind (arith, c.len.ensures.value, c.len-2.ensures.value) in
    let lengths : c.cmp.result ≡ nat_cmp (length p) (length q) = cc (c.len-3.ensures.value, c.len-4.ensures.value) in
    lengths ∙ sym (c.loop-i.invariant ∙ ended p q i lp lq one)

pub loop-i-preserved : goal.loop-i-preserved
loop-i-preserved g c =
    let p = c.args.left.now in
    let q = c.args.right.now in
    let i = c.loop-i.i in
    let lp : i < length p = omega (arith, c.len.ensures.value) in
    let lq : i < length q = omega (arith, c.len-2.ensures.value) in
    agree p q i c.cmp-order.result lp lq (search rules) (sym c.is_ne.ensures ∙ c.if-is_ne.false) c.loop-i.invariant

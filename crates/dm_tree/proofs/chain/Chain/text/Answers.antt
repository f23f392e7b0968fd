use Rattle.std.proofs.Common.{◌≡◌, ◌-◌, ◌++◌, ◌∙◌, IfOk, length, take, drop, ap, ap₂, sym, subst, arith}
use Rattle.dm_tree.specs.Trees.{Lines}
use Rattle.dm_tree.proofs.Chained.{range-chain}
use Rattle.dm_tree.proofs.chain.Chain.text.Goals as goal

pub returns : goal.returns
returns g c =
    let front = c.self.inside.front in
    let middle = c.self.inside.middle in
    let back = c.self.inside.back in
    let s = c.args.start in
    let e = c.args.end in
    let from : c.saturating_sub-from.result ≡ s - length front = omega (arith, c.saturating_sub-from.ensures, c.len-passed.ensures) in
    let to : c.saturating_sub-to.result ≡ e - length front = omega (arith, c.saturating_sub-to.ensures, c.len-passed.ensures) in
    let from2 : c.saturating_sub.result ≡ s - length front - length middle = omega (arith, from, c.saturating_sub.ensures, c.len-passed-2.ensures) in
    let to2 : c.saturating_sub-2.result ≡ e - length front - length middle = omega (arith, to, c.saturating_sub-2.ensures, c.len-passed-2.ensures) in
    let parts =
    ap₂ (λ x y. x ++ y) c.within-front.ensures
    (ap₂ (λ x y. x ++ y) (c.within-middle.ensures ∙ ap₂ (λ t f. take (t - f) (drop f middle)) to from) (c.within-back.ensures ∙ ap₂ (λ t f. take (t - f) (drop f back)) to2 from2)) in
    subst (λ (z : Lines). IfOk c.text_of.result (λ r. r ≡ z)) (parts ∙ sym (range-chain front middle back s e c.requires) ∙ ap (λ z. take (e - s) (drop s z)) c.self.view_is) c.text_of.ensures

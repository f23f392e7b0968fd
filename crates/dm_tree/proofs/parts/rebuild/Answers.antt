use Rattle.std.proofs.Common.{◌≡◌, ◌+◌, ◌-◌, ◌<◌, ◌≤◌, length, sym, subst, ◌++◌, ◌∙◌, [], take, drop, get_or, ap, ap₂, arith}
use Rattle.std.proofs.lemmas.List.{get_or_default, take_rest}
use Rattle.dm_tree.specs.Trees.{Lines}
use Rattle.dm_tree.specs.Files.{joined}
use Rattle.dm_tree.proofs.Joined.{on_ok, joined-splice, chain_fits}
use Rattle.dm_tree.proofs.Plain.{le_lt, le_next, next_le, some_before, minus_zero}
use Rattle.dm_tree.proofs.parts.rebuild.Goals as goal

made_of : (g : _) (c : goal.After-put g)
    → joined c.in_ok-made.made.items ≡ take c.args.from.line (get_or c.args.parts.now.items c.args.from.part []) ++ (c.args.fresh.now ++ drop c.args.to.line (get_or c.args.parts.now.items c.args.to.part []))
made_of g c =
    let ps = c.args.parts.now.items in
    let first : c.all.result ≡ get_or ps c.args.from.part [] = c.all.ensures ∙ c.index.ensures ∙ get_or_default ps c.args.from.part c.index.result.now [] (omega (arith, c.requires.order, c.requires.within)) in
    let last : c.index-last.result.now ≡ get_or ps c.args.to.part [] = c.index-last.ensures ∙ get_or_default ps c.args.to.part c.index-last.result.now [] c.requires.within in
    let size : c.args.from.line - 0 ≡ c.args.from.line = omega arith in
    c.in_ok-made.ensures.lines ∙ c.new-chain.ensures
    ∙ ap₂ (λ x y. x ++ y) (c.within.ensures ∙ ap₂ take size first)
    (ap₂ (λ x y. x ++ y) c.all-2.ensures
    (c.within-2.ensures ∙ ap₂ (λ n (z : Lines). take (n - c.args.to.line) (drop c.args.to.line z)) c.len.ensures c.all-3.ensures ∙ take_rest c.index-last.result.now c.args.to.line ∙ ap (drop c.args.to.line) last))

pub returns-clause-ok : goal.returns-clause-ok
returns-clause-ok g c =
    let ps = c.args.parts.now.items in
    on_ok c.put.result _ _
    (λ e. joined-splice ps c.put.new.parts.items c.in_ok-made.made.items c.args.from.part (c.args.to.part + 1) e
    ∙ ap (λ z. joined (take c.args.from.part ps) ++ (z ++ joined (drop (c.args.to.part + 1) ps))) (made_of g c))
    c.put.ensures.ok

pub index-last-requires : goal.index-last-requires
index-last-requires g c = subst (λ n. c.args.to.part < n) (sym c.args.parts.now.ok.0) c.requires.within

pub index-requires : goal.index-requires
index-requires g c = subst (λ n. c.args.from.part < n) (sym c.args.parts.now.ok.0) (le_lt _ _ _ c.requires.order c.requires.within)

pub within-requires-2 : goal.within-requires-2
within-requires-2 g c =
    let last : c.index-last.result.now ≡ get_or c.args.parts.now.items c.args.to.part [] = c.index-last.ensures ∙ get_or_default c.args.parts.now.items c.args.to.part c.index-last.result.now [] c.requires.within in
    subst (λ n. c.args.to.line ≤ n) (sym (c.len.ensures ∙ ap length last)) c.requires.to

pub cut-requires : goal.cut-requires
cut-requires g c =
    let ps = c.args.parts.now.items in
    let first : c.all.result ≡ get_or ps c.args.from.part [] = c.all.ensures ∙ c.index.ensures ∙ get_or_default ps c.args.from.part c.index.result.now [] (le_lt _ _ _ c.requires.order c.requires.within) in
    let last : c.index-last.result.now ≡ get_or ps c.args.to.part [] = c.index-last.ensures ∙ get_or_default ps c.args.to.part c.index-last.result.now [] c.requires.within in
    let whole : c.new-chain.result ≡ take c.args.from.line (get_or ps c.args.from.part []) ++ (c.args.fresh.now ++ drop c.args.to.line (get_or ps c.args.to.part [])) =
    c.new-chain.ensures
    ∙ ap₂ (λ x y. x ++ y) (c.within.ensures ∙ ap₂ take (minus_zero c.args.from.line) first)
    (ap₂ (λ x y. x ++ y) c.all-2.ensures
    (c.within-2.ensures ∙ ap₂ (λ n (z : Lines). take (n - c.args.to.line) (drop c.args.to.line z)) c.len.ensures c.all-3.ensures ∙ take_rest c.index-last.result.now c.args.to.line ∙ ap (drop c.args.to.line) last)) in
    chain_fits _ c.args.fresh.now _ c.new-chain.result c.args.from.line c.args.to.line whole c.requires.from c.requires.fits

pub put-requires-clause-order : goal.put-requires-clause-order
put-requires-clause-order g c = le_next _ _ c.requires.order

pub put-requires-clause-within : goal.put-requires-clause-within
put-requires-clause-within g c = next_le _ _ c.requires.within

pub put-requires-clause-some : goal.put-requires-clause-some
put-requires-clause-some g c = some_before _ _ c.requires.within

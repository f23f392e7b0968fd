use Rattle.std.proofs.Common.{◌≡◌, ◌+◌, ◌-◌, ◌≤◌, ◌∙◌, length, take, drop, min, ap, ap₂, sym, subst, refl, IsTrue, false}
use Rattle.dm_tree.specs.Trees.{Lines}
use Rattle.dm_tree.proofs.Standing.{stands_all, stands_not, stands_next, stands_first, stands_here, stands_end}
use Rattle.dm_tree.proofs.Plain.{le_more, step_fits, other_step_fits}
use Rattle.dm_tree.proofs.parts.stands.Goals as goal

never : {P : Type 0} → IsTrue false → P
never t = cc

pub returns-then-at-len : goal.returns-then-at-len
returns-then-at-len g c = (λ t. stands_all _ _ _ _ _ _ c.loop-part.invariant (c.if-at-len.true ∙ c.len.ensures), λ u. refl)

pub returns-then-not-is_same : goal.returns-then-not-is_same
returns-then-not-is_same g c =
    let ps = c.args.parts.now in
    let i = c.loop-part.part-index in
    let p = c.part-item.result in
    let lt = c.loop-part-test.true in
    let fits : c.loop-part.line ≤ length p = stands_here ps c.args.first c.args.text.now i c.loop-part.line c.loop-part.at (length p) p c.loop-part.invariant lt c.part-item.is refl in
    let least : c.min-count.result ≡ min (length p - c.loop-part.line) (length c.args.text.now - c.loop-part.at) = c.min-count.ensures ∙ ap₂ (λ a b. min (a - c.loop-part.line) (b - c.loop-part.at)) c.len-in-loop-part.ensures c.len-in-loop-part-2.ensures in
    let n = c.min-count.result in
    let here = c.within-here.ensures ∙ ap (λ (z : Lines). take (c.loop-part.line + n - c.loop-part.line) (drop c.loop-part.line z)) c.all.ensures in
    (never, λ u. absurd (stands_not _ _ _ _ _ _ c.loop-part.invariant p n lt c.part-item.is fits least (λ e. let t = c.is_same.ensures.1 (here ∙ e ∙ sym c.within.ensures) in cc) u))

pub loop-part-preserved : goal.loop-part-preserved
loop-part-preserved g c =
    let ps = c.args.parts.now in
    let i = c.loop-part.part-index in
    let p = c.part-item.result in
    let lt = c.loop-part-test.true in
    let fits : c.loop-part.line ≤ length p = stands_here ps c.args.first c.args.text.now i c.loop-part.line c.loop-part.at (length p) p c.loop-part.invariant lt c.part-item.is refl in
    let least : c.min-count.result ≡ min (length p - c.loop-part.line) (length c.args.text.now - c.loop-part.at) = c.min-count.ensures ∙ ap₂ (λ a b. min (a - c.loop-part.line) (b - c.loop-part.at)) c.len-in-loop-part.ensures c.len-in-loop-part-2.ensures in
    let n = c.min-count.result in
    let here = c.within-here.ensures ∙ ap (λ (z : Lines). take (c.loop-part.line + n - c.loop-part.line) (drop c.loop-part.line z)) c.all.ensures in
    stands_next _ _ _ _ _ _ c.loop-part.invariant p n lt c.part-item.is fits least (sym here ∙ c.is_same.ensures.0 c.if-not-is_same.false ∙ c.within.ensures)

pub loop-part-init : goal.loop-part-init
loop-part-init g c = stands_first c.args.parts.now c.args.first c.args.text.now c.requires

pub overflow_sub-len : goal.overflow_sub-len
overflow_sub-len g c = stands_here _ _ _ _ _ _ c.len-in-loop-part.result c.part-item.result c.loop-part.invariant c.loop-part-test.true c.part-item.is c.len-in-loop-part.ensures

pub overflow_sub-len-in-loop-part : goal.overflow_sub-len-in-loop-part
overflow_sub-len-in-loop-part g c = subst (λ n. c.loop-part.at ≤ n) (sym c.len-in-loop-part-2.ensures) c.loop-part.invariant.within

pub overflow_add-line : goal.overflow_add-line
overflow_add-line g c =
    let fits = stands_here _ _ _ _ _ _ c.len-in-loop-part.result c.part-item.result c.loop-part.invariant c.loop-part-test.true c.part-item.is c.len-in-loop-part.ensures in
    step_fits c.loop-part.line c.len-in-loop-part.result (c.len-in-loop-part-2.result - c.loop-part.at) c.min-count.result fits c.min-count.ensures c.len-in-loop-part.type_inv

pub within-here-requires : goal.within-here-requires
within-here-requires g c = le_more c.loop-part.line c.min-count.result

pub overflow_add-at : goal.overflow_add-at
overflow_add-at g c = other_step_fits c.loop-part.at c.len-in-loop-part-2.result _ c.min-count.result (subst (λ n. c.loop-part.at ≤ n) (sym c.len-in-loop-part-2.ensures) c.loop-part.invariant.within) c.min-count.ensures c.len-in-loop-part-2.type_inv

pub within-requires : goal.within-requires
within-requires g c = le_more c.loop-part.at c.min-count.result

pub overflow_add-at-in-loop-part : goal.overflow_add-at-in-loop-part
overflow_add-at-in-loop-part g c = other_step_fits c.loop-part.at c.len-in-loop-part-2.result _ c.min-count.result (subst (λ n. c.loop-part.at ≤ n) (sym c.len-in-loop-part-2.ensures) c.loop-part.invariant.within) c.min-count.ensures c.len-in-loop-part-2.type_inv

pub returns : goal.returns
returns g c = stands_end _ _ _ _ _ _ c.len-2.result c.loop-part.invariant c.loop-part-test.false c.len-2.ensures

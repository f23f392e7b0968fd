use Rattle.std.proofs.Common.{◌<◌, true, false, sym, ◌∙◌, arith, length}
use Rattle.std.proofs.lemmas.Bool.{false≢true}
use Rattle.dm_repo.proofs.Splits.{mark_at}
use Rattle.dm_repo.proofs.DependencyLemmas.{all_have, have_more, held_has, none_has}
use Rattle.dm_repo.proofs.dependencies.have_none.Goals as goal

pub loop-n-init : goal.loop-n-init
loop-n-init g c = λ repo marked m l. absurd (omega (arith, l))

pub loop-n-preserved-then-held-n : goal.loop-n-preserved-then-held-n
loop-n-preserved-then-held-n g c = λ repo marked.
    let b = c.args.bundle.now in
    let held = c.args.held.now in
    let w : c.loop-n.n < length b.patches = rw c.new_patches-new.ensures.value at c.loop-n-test.true in
    let l : c.loop-n.n < length held = omega (arith, c.requires, w) in
    have_more repo b c.loop-n.n (held_has repo b held c.loop-n.n marked (mark_at held c.loop-n.n true false l c.if-held-n.true)) (c.loop-n.invariant repo marked)

pub returns-then-not-is_empty : goal.returns-then-not-is_empty
returns-then-not-is_empty g c = λ repo marked t. absurd (false≢true t)

pub loop-n-preserved : goal.loop-n-preserved
loop-n-preserved g c = λ repo marked.
    let b = c.args.bundle.now in
    let l : c.loop-n.n < length b.patches = rw c.new_patches-new.ensures.value at c.loop-n-test.true in
    let here = none_has repo b c.loop-n.n c.index-new-n.result l (rw c.new_patches-new.ensures.value at c.index-new-n.is) (rw c.deps.ensures at (sym c.is_empty.ensures ∙ c.if-not-is_empty.false)) in
    have_more repo b c.loop-n.n here (c.loop-n.invariant repo marked)

pub returns : goal.returns
returns g c = λ repo marked t. all_have repo c.args.bundle.now c.loop-n.n (rw c.new_patches-new.ensures.value at c.loop-n-test.false) (c.loop-n.invariant repo marked)

pub bounds-held-n : goal.bounds-held-n
bounds-held-n g c = omega (arith, c.requires, rw c.new_patches-new.ensures.value at c.loop-n-test.true)

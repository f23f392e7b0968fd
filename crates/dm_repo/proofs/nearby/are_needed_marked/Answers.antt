use Rattle.std.proofs.Common.{◌≡◌, ◌<◌, length, get_or, true, false, arith, refl, sym, ◌∙◌}
use Rattle.dm_repo.proofs.MarksLemmas.{some_same}
use Rattle.dm_repo.proofs.Splits.{mark_at}
use Rattle.dm_repo.proofs.Telling.{needed_none, needed_more, needed_past, needed_all}
use Rattle.dm_repo.proofs.nearby.are_needed_marked.Goals as goal

pub loop-k-init : goal.loop-k-init
loop-k-init g c = needed_none c.args.repo.now.patches c.args.kept c.args.common.now c.args.marks.now

pub loop-k-preserved-then-not-common-k : goal.loop-k-preserved-then-not-common-k
loop-k-preserved-then-not-common-k g c =
    let repo = c.args.repo.now.patches in
    let common = c.args.common.now in
    let k = c.loop-k.k in
    let l : k < length repo = rw c.patches-patches.ensures.value at c.loop-k-test.true in
    needed_past repo c.args.kept common c.args.marks.now k
    (λ s. let b : false ≡ true = some_same (sym (mark_at common k false false (omega (arith, l, c.requires.common)) c.if-not-common-k.true) ∙ s) in absurd (cc)) c.loop-k.invariant

pub loop-k-preserved : goal.loop-k-preserved
loop-k-preserved g c =
    let repo = c.args.repo.now.patches in
    let k = c.loop-k.k in
    let l : k < length repo = rw c.patches-patches.ensures.value at c.loop-k-test.true in
    needed_more repo c.args.kept c.args.common.now c.args.marks.now k c.index-patches-k.result l (rw c.patches-patches.ensures.value at c.index-patches-k.is)
    (λ i. rw c.deps.ensures at (c.if-not-are_named_marked.ensures refl)) c.loop-k.invariant

pub returns : goal.returns
returns g c = λ t. needed_all c.args.repo.now.patches c.args.kept c.args.common.now c.args.marks.now c.loop-k.k (rw c.patches-patches.ensures.value at c.loop-k-test.false) c.loop-k.invariant

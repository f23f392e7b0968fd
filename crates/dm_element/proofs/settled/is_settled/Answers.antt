use Rattle.std.proofs.Common.{◌≡◌, ◌+◌, ◌∙◌, true, inl, ap, arith}
use borrow.Author.Count.{below_more}
use Rattle.std.proofs.lemmas.List.{length-map}
use Rattle.dm_element.specs.Values.{element_of, elements_of, patches_of}
use Rattle.dm_element.proofs.SettledLemmas.{behind, IsHeldAt, plain_held, conflict_held, conflict_unsettled, all_held}
use Rattle.dm_element.proofs.settled.is_settled.Goals as goal

pub returns-then-is_named : goal.returns-then-is_named
returns-then-is_named g c = λ front rest x e. inl (c.is_named.ensures.0 c.if-is_named.true)

pub loop-at-init : goal.loop-at-init
loop-at-init g c = λ k l. absurd (omega (arith, l))

pub loop-at-preserved-in_default : goal.loop-at-preserved-in_default
loop-at-preserved-in_default g c = below_more (λ k. IsHeldAt (elements_of c.args.patch.now.elements.now) (patches_of c.args.later.now) k) c.loop-at.at c.loop-at.invariant
    (plain_held c.args.patch.now.elements.now c.loop-at.at c.index-patch-at.result c.loop-at-test.true c.index-patch-at.is (patches_of c.args.later.now) _ (ap element_of (c.index-patch-at.is ∙ c.in_default.is)))

pub returns-then-branch : goal.returns-then-branch
returns-then-branch g c = conflict_unsettled c.args.patch.now.elements.now c.loop-at.at c.index-patch-at.result c.loop-at-test.true c.index-patch-at.is (patches_of c.args.later.now) c.args.place c.args.patch.now.names.now
    c.in-Conflicted.conflict (ap element_of (c.index-patch-at.is ∙ c.in-Conflicted.is)) (λ h. let y : c.is_named.result ≡ true = c.is_named.ensures.1 h in let w : ⊥ = cc in w) (rw (behind c.args.patch.now.elements.now (c.loop-at.at + 1)) at (c.in_ok-passes_all.ensures.0 c.if-branch.true))

pub loop-at-preserved : goal.loop-at-preserved
loop-at-preserved g c = below_more (λ k. IsHeldAt (elements_of c.args.patch.now.elements.now) (patches_of c.args.later.now) k) c.loop-at.at c.loop-at.invariant
    (conflict_held c.args.patch.now.elements.now c.loop-at.at c.index-patch-at.result c.loop-at-test.true c.index-patch-at.is (patches_of c.args.later.now)
    c.in-Conflicted.conflict (ap element_of (c.index-patch-at.is ∙ c.in-Conflicted.is)) (λ h. let y : c.in_ok-passes_all.field-0 ≡ true = c.in_ok-passes_all.ensures.1 (rw (behind c.args.patch.now.elements.now (c.loop-at.at + 1)) h) in let w : ⊥ = cc in w))

pub returns : goal.returns
returns g c = all_held (elements_of c.args.patch.now.elements.now) (patches_of c.args.later.now) c.loop-at.at (rw (length-map c.args.patch.now.elements.now element_of) c.loop-at-test.false)
    c.loop-at.invariant c.args.place c.args.patch.now.names.now

use Rattle.std.proofs.Common.{◌≡◌, true, refl, inl, inr, arith}
use Rattle.dm_prim.specs.Prims.{prims_of}
use Rattle.dm_element.specs.Elements.{Merge}
use Rattle.dm_element.proofs.ShadowLemmas.{any_at, each_more, none_of, neither}
use Rattle.dm_element.proofs.merge.has_reason.Goals as goal

pub returns-then-not-undone_merges : goal.returns-then-not-undone_merges
returns-then-not-undone_merges g c = (λ t. inl (λ m. let y : c.in_ok-undone_merges.undone_merges ≡ true = c.in_ok-undone_merges.ensures.1 m in let w : ⊥ = cc in w), λ h. refl)

pub loop-first-init : goal.loop-first-init
loop-first-init g c = λ k l. absurd (omega (arith, l))

pub returns-then-not-first_merges : goal.returns-then-not-first_merges
returns-then-not-first_merges g c = (
  λ t. inr (any_at c.args.partners.now c.loop-first.first-index c.first-item.result c.loop-first-test.true c.first-item.is (λ m. Merge m (prims_of c.args.own.now) → ⊥)
      (λ m. let y : c.in_ok-first_merges.first_merges ≡ true = c.in_ok-first_merges.ensures.1 (rw c.as_slice.ensures.value m) in let w : ⊥ = cc in w)),
  λ h. refl,
)

pub loop-first-preserved : goal.loop-first-preserved
loop-first-preserved g c =
    let y : c.in_ok-first_merges.first_merges ≡ true = cc in
    each_more c.args.partners.now c.loop-first.first-index c.first-item.result c.loop-first-test.true c.first-item.is (λ m. Merge m (prims_of c.args.own.now)) c.loop-first.invariant
    (rw c.as_slice.ensures.value at (c.in_ok-first_merges.ensures.0 y))

pub returns : goal.returns
returns g c =
    let y : c.in_ok-undone_merges.undone_merges ≡ true = cc in (
      λ t. let w : ⊥ = cc in absurd w,
      λ h. absurd (neither (λ n. n (c.in_ok-undone_merges.ensures.0 y))
          (none_of c.args.partners.now c.loop-first.first-index c.loop-first-test.false (λ m. Merge m (prims_of c.args.own.now)) c.loop-first.invariant) h),
    )

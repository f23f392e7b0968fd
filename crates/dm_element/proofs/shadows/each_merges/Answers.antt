use Rattle.std.proofs.Common.{◌≡◌, All, true, refl}
use Rattle.dm_prim.specs.Primitives.{Prim}
use Rattle.dm_prim.specs.Prims.{prims_of}
use Rattle.dm_element.specs.Elements.{Merge}
use Rattle.dm_element.specs.Lists.{lists_of}
use Rattle.dm_element.proofs.ShadowLemmas.{each_at, each_more, each_all}
use Rattle.dm_element.proofs.shadows.each_merges.Goals as goal

pub returns-then-not-branch : goal.returns-then-not-branch
returns-then-not-branch g c = (
  λ t. let w : ⊥ = cc in absurd w,
  λ h.
      let m : All (λ k. Merge (prims_of c.one-item.result.items) k) (lists_of c.args.others.now) = each_at c.args.ones.now c.loop-one.one-index c.one-item.result c.loop-one-test.true c.one-item.is
      (λ m. All (λ k. Merge m k) (lists_of c.args.others.now)) h in
      let y : c.in_ok-merges_with_each.field-0 ≡ true = c.in_ok-merges_with_each.ensures.1 (rw c.as_slice.ensures.value m) in
      let w : ⊥ = cc in absurd w,
)

pub loop-one-preserved : goal.loop-one-preserved
loop-one-preserved g c =
    let y : c.in_ok-merges_with_each.field-0 ≡ true = cc in
    each_more c.args.ones.now c.loop-one.one-index c.one-item.result c.loop-one-test.true c.one-item.is
    (λ m. All (λ k. Merge m k) (lists_of c.args.others.now)) c.loop-one.invariant (rw c.as_slice.ensures.value at (c.in_ok-merges_with_each.ensures.0 y))

pub returns : goal.returns
returns g c = (λ t. each_all c.args.ones.now c.loop-one.one-index c.loop-one-test.false (λ m. All (λ k. Merge m k) (lists_of c.args.others.now)) c.loop-one.invariant, λ h. refl)

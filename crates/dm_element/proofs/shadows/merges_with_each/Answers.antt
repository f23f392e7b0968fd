use Rattle.std.proofs.Common.{List, refl}
use Rattle.dm_prim.specs.Primitives.{Prim, inv_all}
use Rattle.dm_prim.specs.Commuting.{ListsCommute}
use Rattle.dm_prim.specs.Prims.{prims_of}
use Rattle.dm_element.specs.Elements.{Merge}
use Rattle.dm_element.proofs.ShadowLemmas.{each_at, each_more, each_all}
use Rattle.dm_element.proofs.shadows.merges_with_each.Goals as goal

pub returns-in_default : goal.returns-in_default
returns-in_default g c = (
  λ t. let w : ⊥ = cc in absurd w,
  λ h.
      let m : Merge (prims_of c.args.one.now) (prims_of c.other-item.result.items) = each_at c.args.others.now c.loop-other.other-index c.other-item.result c.loop-other-test.true c.other-item.is
      (λ k. Merge (prims_of c.args.one.now) k) h in
      let n : (ys xs : List Prim) → ListsCommute (inv_all (prims_of c.args.one.now)) (prims_of c.other-item.result.items) ys xs → ⊥ =
      rw (c.in_default.is, c.as_slice-in-loop-other.ensures.value, c.as_slice.ensures.value, c.in_ok-inverse.ensures) at c.in_ok-_both.ensures.answer in
      absurd (n m.second m.first m.commute),
)

pub returns : goal.returns
returns g c = (λ t. each_all c.args.others.now c.loop-other.other-index c.loop-other-test.false (λ k. Merge (prims_of c.args.one.now) k) c.loop-other.invariant, λ h. refl)

pub loop-other-preserved : goal.loop-other-preserved
loop-other-preserved g c = each_more c.args.others.now c.loop-other.other-index c.other-item.result c.loop-other-test.true c.other-item.is (λ k. Merge (prims_of c.args.one.now) k) c.loop-other.invariant
    (record { second = prims_of c.in-Some._both.0.items; first = prims_of c.in-Some._both.1.items; commute = rw (c.in-Some.is, c.as_slice-in-loop-other.ensures.value, c.as_slice.ensures.value, c.in_ok-inverse.ensures) at c.in_ok-_both.ensures.answer })

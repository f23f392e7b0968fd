use Rattle.std.proofs.Common.{List, refl}
use Rattle.dm_prim.specs.Primitives.{Prim, inv_all}
use Rattle.dm_prim.specs.Commuting.{ListsCommute}
use Rattle.dm_prim.specs.Prims.{prims_of}
use Rattle.dm_element.proofs.merge.lists_merge.Goals as goal

pub returns-in_default : goal.returns-in_default
returns-in_default g c = (
  λ t. let w : ⊥ = cc in absurd w,
  λ m.
      let n : (ys xs : List Prim) → ListsCommute (inv_all (prims_of c.args.one.now)) (prims_of c.args.other.now) ys xs → ⊥ =
      rw (c.in_default.is, c.as_slice.ensures.value, c.in_ok-inverse.ensures) at c.in_ok-_both.ensures.answer in
      absurd (n m.second m.first m.commute),
)

pub returns : goal.returns
returns g c = (
  λ t. record {
    second = prims_of c.in-Some._both.0.items;
    first = prims_of c.in-Some._both.1.items;
    commute = rw (c.in-Some.is, c.as_slice.ensures.value, c.in_ok-inverse.ensures) at c.in_ok-_both.ensures.answer;
  },
  λ h. refl,
)

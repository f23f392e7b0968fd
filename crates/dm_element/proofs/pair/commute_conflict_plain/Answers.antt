use Rattle.std.proofs.Common.{◌≡◌, [], ◌∷◌, ap, refl, ◌∙◌}
use Rattle.dm_prim.specs.Primitives.{inv_all}
use Rattle.dm_prim.specs.Commuting.{ListsCommute}
use Rattle.dm_prim.specs.Prims.{prim_of, prims_of}
use Rattle.dm_element.specs.Elements.{at_side}
use Rattle.dm_element.specs.Lists.{lists_of}
use Rattle.dm_element.proofs.ConflictLemmas.{picked, then_plain, no_effects_plain, no_shadows_plain, one_right}
use Rattle.dm_element.proofs.pair.commute_conflict_plain.Goals as goal

pub returns-in_default : goal.returns-in_default
returns-in_default g c = no_effects_plain c.args.c (prim_of c.args.q)
    (rw (c.in_default.is, c.in_ok-second.ensures, c.as_slice.ensures.value, c.in_ok-after.ensures, c.into_parts-effect.ensures.effect) at c.in_ok-before.ensures.answer)

pub returns-in_default-2 : goal.returns-in_default-2
returns-in_default-2 g c =
    let effects : ListsCommute c.args.c.effect (prim_of c.args.q ∷ []) (prims_of c.in-Some.before.items) (prims_of c.in-Some.first.items) =
    rw (c.in-Some.is, c.in_ok-second.ensures, c.as_slice.ensures.value, c.in_ok-after.ensures, c.into_parts-effect.ensures.effect) at c.in_ok-before.ensures.answer in
    let by : prims_of c.as_slice-4.result.now ≡ inv_all (at_side c.args.c.side (prims_of c.in-Some.before.items) (prim_of c.args.q ∷ [])) =
    ap (λ z. prims_of z) c.as_slice-4.ensures.value ∙ c.in_ok-by.ensures ∙
    ap inv_all (picked (λ z. prims_of z) c.side-side.result _ c.pick.result.now c.as_slice-2.result.now c.as_slice-3.result.now _ _ c.pick.ensures c.side-side.ensures
    (ap (λ z. prims_of z) c.as_slice-2.ensures.value) (ap (λ z. prims_of z) c.as_slice-3.ensures.value ∙ c.in_ok-after.ensures)) in
    no_shadows_plain c.args.c (prim_of c.args.q) (prims_of c.in-Some.before.items) (prims_of c.in-Some.first.items) effects
    (rw (c.in_default-2.is, by, c.into_parts-effect.ensures.shadows) at c.in_ok-shadows.ensures)

pub only-requires : goal.only-requires
only-requires g c =
    let effects : ListsCommute c.args.c.effect (prim_of c.args.q ∷ []) (prims_of c.in-Some.before.items) (prims_of c.in-Some.first.items) =
    rw (c.in-Some.is, c.in_ok-second.ensures, c.as_slice.ensures.value, c.in_ok-after.ensures, c.into_parts-effect.ensures.effect) at c.in_ok-before.ensures.answer in
    one_right c.in-Some.before.items effects refl

pub returns : goal.returns
returns g c =
    let effects : ListsCommute c.args.c.effect (prim_of c.args.q ∷ []) (prims_of c.in-Some.before.items) (prims_of c.in-Some.first.items) =
    rw (c.in-Some.is, c.in_ok-second.ensures, c.as_slice.ensures.value, c.in_ok-after.ensures, c.into_parts-effect.ensures.effect) at c.in_ok-before.ensures.answer in
    let by : prims_of c.as_slice-4.result.now ≡ inv_all (at_side c.args.c.side (prims_of c.in-Some.before.items) (prim_of c.args.q ∷ [])) =
    ap (λ z. prims_of z) c.as_slice-4.ensures.value ∙ c.in_ok-by.ensures ∙
    ap inv_all (picked (λ z. prims_of z) c.side-side.result _ c.pick.result.now c.as_slice-2.result.now c.as_slice-3.result.now _ _ c.pick.ensures c.side-side.ensures
    (ap (λ z. prims_of z) c.as_slice-2.ensures.value) (ap (λ z. prims_of z) c.as_slice-3.ensures.value ∙ c.in_ok-after.ensures)) in
    rw (c.new-first.ensures, c.side-side.ensures) (then_plain c.args.c (prim_of c.args.q) (prim_of c.only.result) (prims_of c.in-Some.first.items) (lists_of c.in-Some-2.shadows.items)
    (rw c.only.ensures at effects) (rw c.only.ensures at (rw (c.in-Some-2.is, by, c.into_parts-effect.ensures.shadows) at c.in_ok-shadows.ensures)))

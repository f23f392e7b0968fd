use Rattle.std.proofs.Common.{◌≡◌, [], ◌∷◌, ap, refl, ◌∙◌}
use Rattle.dm_prim.specs.Commuting.{ListsCommute}
use Rattle.dm_prim.specs.Prims.{prim_of, prims_of}
use Rattle.dm_element.specs.Elements.{at_side}
use Rattle.dm_element.specs.Lists.{lists_of}
use Rattle.dm_element.proofs.ConflictLemmas.{picked, plain_then, plain_no_effects, plain_no_shadows, one_left}
use Rattle.dm_element.proofs.pair.commute_plain_conflict.Goals as goal

pub returns-in_default : goal.returns-in_default
returns-in_default g c = plain_no_effects (prim_of c.args.p) c.args.d
    (rw (c.in_default.is, c.in_ok-first.ensures, c.as_slice.ensures.value, c.in_ok-before.ensures, c.into_parts-effect.ensures.effect) at c.in_ok-second.ensures.answer)

pub returns-in_default-2 : goal.returns-in_default-2
returns-in_default-2 g c =
    let effects : ListsCommute (prim_of c.args.p ∷ []) c.args.d.effect (prims_of c.in-Some.second.items) (prims_of c.in-Some.after.items) =
    rw (c.in-Some.is, c.in_ok-first.ensures, c.as_slice.ensures.value, c.in_ok-before.ensures, c.into_parts-effect.ensures.effect) at c.in_ok-second.ensures.answer in
    let by : prims_of c.pick-by.result.now ≡ at_side c.args.d.side (prim_of c.args.p ∷ []) (prims_of c.in-Some.after.items) =
    picked (λ z. prims_of z) c.side-side.result _ c.pick-by.result.now c.as_slice-2.result.now c.as_slice-3.result.now _ _ c.pick-by.ensures c.side-side.ensures
    (ap (λ z. prims_of z) c.as_slice-2.ensures.value ∙ c.in_ok-before.ensures) (ap (λ z. prims_of z) c.as_slice-3.ensures.value) in
    plain_no_shadows (prim_of c.args.p) c.args.d (prims_of c.in-Some.second.items) (prims_of c.in-Some.after.items) effects
    (rw (c.in_default-2.is, by, c.into_parts-effect.ensures.shadows) at c.in_ok-shadows.ensures)

pub only-requires : goal.only-requires
only-requires g c =
    let effects : ListsCommute (prim_of c.args.p ∷ []) c.args.d.effect (prims_of c.in-Some.second.items) (prims_of c.in-Some.after.items) =
    rw (c.in-Some.is, c.in_ok-first.ensures, c.as_slice.ensures.value, c.in_ok-before.ensures, c.into_parts-effect.ensures.effect) at c.in_ok-second.ensures.answer in
    one_left c.in-Some.after.items effects refl

pub returns : goal.returns
returns g c =
    let effects : ListsCommute (prim_of c.args.p ∷ []) c.args.d.effect (prims_of c.in-Some.second.items) (prims_of c.in-Some.after.items) =
    rw (c.in-Some.is, c.in_ok-first.ensures, c.as_slice.ensures.value, c.in_ok-before.ensures, c.into_parts-effect.ensures.effect) at c.in_ok-second.ensures.answer in
    let by : prims_of c.pick-by.result.now ≡ at_side c.args.d.side (prim_of c.args.p ∷ []) (prims_of c.in-Some.after.items) =
    picked (λ z. prims_of z) c.side-side.result _ c.pick-by.result.now c.as_slice-2.result.now c.as_slice-3.result.now _ _ c.pick-by.ensures c.side-side.ensures
    (ap (λ z. prims_of z) c.as_slice-2.ensures.value ∙ c.in_ok-before.ensures) (ap (λ z. prims_of z) c.as_slice-3.ensures.value) in
    rw (c.new-second.ensures, c.side-side.ensures) (plain_then (prim_of c.args.p) c.args.d (prim_of c.only.result) (prims_of c.in-Some.second.items) (lists_of c.in-Some-2.shadows.items)
    (rw c.only.ensures at effects) (rw c.only.ensures at (rw (c.in-Some-2.is, by, c.into_parts-effect.ensures.shadows) at c.in_ok-shadows.ensures)))

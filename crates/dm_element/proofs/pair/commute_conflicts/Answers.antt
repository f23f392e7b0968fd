use Rattle.std.proofs.Common.{◌≡◌, true, refl, ap, ◌∙◌}
use Rattle.dm_prim.specs.Primitives.{Prim, inv_all}
use Rattle.dm_prim.specs.Commuting.{ListsCommute}
use Rattle.dm_prim.specs.Prims.{prims_of}
use Rattle.dm_element.specs.Elements.{at_side}
use Rattle.dm_element.specs.Lists.{lists_of}
use Rattle.dm_element.proofs.ConflictLemmas.{conflicts_commute, no_effects, no_first, no_second, no_merge, picked}
use Rattle.dm_element.proofs.pair.commute_conflicts.Goals as goal

pub returns-in_default : goal.returns-in_default
returns-in_default g c = no_effects c.args.e.now c.args.f.now (rw (c.in_default.is, c.effect.ensures, c.effect-2.ensures) at c.in_ok-second.ensures.answer)

pub returns-in_default-2 : goal.returns-in_default-2
returns-in_default-2 g c d' c' h =
    let effects : ListsCommute c.args.e.now.effect c.args.f.now.effect (prims_of c.in-Some.second.items) (prims_of c.in-Some.first.items) =
    rw (c.in-Some.is, c.effect.ensures, c.effect-2.ensures) at c.in_ok-second.ensures.answer in
    let by : prims_of c.as_slice-2.result.now ≡ inv_all (at_side c.args.e.now.side (prims_of c.in-Some.second.items) c.args.f.now.effect) =
    ap (λ z. prims_of z) c.as_slice-2.ensures.value ∙ c.in_ok-backwards.ensures ∙
    ap inv_all (picked (λ z. prims_of z) c.side.result _ c.pick.result.now c.as_slice.result.now c.effect-3.result.now _ _ c.pick.ensures c.side.ensures (ap (λ z. prims_of z) c.as_slice.ensures.value) c.effect-3.ensures) in
    no_first c.args.e.now c.args.f.now (prims_of c.in-Some.second.items) (prims_of c.in-Some.first.items) effects d' c' h
    (rw (c.in_default-2.is, by, c.in_ok-copy_lists.ensures, c.shadows.ensures) at c.in_ok-first_shadows.ensures)

pub returns-in_default-3 : goal.returns-in_default-3
returns-in_default-3 g c d' c' h =
    let effects : ListsCommute c.args.e.now.effect c.args.f.now.effect (prims_of c.in-Some.second.items) (prims_of c.in-Some.first.items) =
    rw (c.in-Some.is, c.effect.ensures, c.effect-2.ensures) at c.in_ok-second.ensures.answer in
    let by : prims_of c.pick-forwards.result.now ≡ at_side c.args.f.now.side c.args.e.now.effect (prims_of c.in-Some.first.items) =
    picked (λ z. prims_of z) c.side-2.result _ c.pick-forwards.result.now c.effect-4.result.now c.as_slice-3.result.now _ _ c.pick-forwards.ensures c.side-2.ensures c.effect-4.ensures (ap (λ z. prims_of z) c.as_slice-3.ensures.value) in
    no_second c.args.e.now c.args.f.now (prims_of c.in-Some.second.items) (prims_of c.in-Some.first.items) effects d' c' h
    (rw (c.in_default-3.is, by, c.in_ok-copy_lists-2.ensures, c.shadows-2.ensures) at c.in_ok-second_shadows.ensures)

pub returns-then-not-branch : goal.returns-then-not-branch
returns-then-not-branch g c d' c' h =
    let effects : ListsCommute c.args.e.now.effect c.args.f.now.effect (prims_of c.in-Some.second.items) (prims_of c.in-Some.first.items) =
    rw (c.in-Some.is, c.effect.ensures, c.effect-2.ensures) at c.in_ok-second.ensures.answer in
    let by : prims_of c.as_slice-2.result.now ≡ inv_all (at_side c.args.e.now.side (prims_of c.in-Some.second.items) c.args.f.now.effect) =
    ap (λ z. prims_of z) c.as_slice-2.ensures.value ∙ c.in_ok-backwards.ensures ∙
    ap inv_all (picked (λ z. prims_of z) c.side.result _ c.pick.result.now c.as_slice.result.now c.effect-3.result.now _ _ c.pick.ensures c.side.ensures (ap (λ z. prims_of z) c.as_slice.ensures.value) c.effect-3.ensures) in
    let by2 : prims_of c.pick-forwards.result.now ≡ at_side c.args.f.now.side c.args.e.now.effect (prims_of c.in-Some.first.items) =
    picked (λ z. prims_of z) c.side-2.result _ c.pick-forwards.result.now c.effect-4.result.now c.as_slice-3.result.now _ _ c.pick-forwards.ensures c.side-2.ensures c.effect-4.ensures (ap (λ z. prims_of z) c.as_slice-3.ensures.value) in
    let ones : lists_of c.pick-ones.result.now ≡ at_side c.args.f.now.side c.args.e.now.shadows (lists_of c.in-Some-2.first_shadows.items) =
    picked (λ z. lists_of z) c.side-3.result _ c.pick-ones.result.now c.shadows-3.result.now c.as_slice-4.result.now _ _ c.pick-ones.ensures c.side-3.ensures c.shadows-3.ensures (ap (λ z. lists_of z) c.as_slice-4.ensures.value) in
    let others : lists_of c.pick-others.result.now ≡ at_side c.args.e.now.side (lists_of c.in-Some-3.second_shadows.items) c.args.f.now.shadows =
    picked (λ z. lists_of z) c.side-4.result _ c.pick-others.result.now c.as_slice-5.result.now c.shadows-4.result.now _ _ c.pick-others.ensures c.side-4.ensures (ap (λ z. lists_of z) c.as_slice-5.ensures.value) c.shadows-4.ensures in
    no_merge c.args.e.now c.args.f.now (prims_of c.in-Some.second.items) (prims_of c.in-Some.first.items) effects d' c' h
    (lists_of c.in-Some-2.first_shadows.items) (lists_of c.in-Some-3.second_shadows.items)
    (rw (c.in-Some-2.is, by, c.in_ok-copy_lists.ensures, c.shadows.ensures) at c.in_ok-first_shadows.ensures)
    (rw (c.in-Some-3.is, by2, c.in_ok-copy_lists-2.ensures, c.shadows-2.ensures) at c.in_ok-second_shadows.ensures)
    (λ m. let y : c.in_ok-each_merges.field-0 ≡ true = c.in_ok-each_merges.ensures.1 (rw (ones, others) m) in let w : ⊥ = cc in w)

pub returns : goal.returns
returns g c =
    let effects : ListsCommute c.args.e.now.effect c.args.f.now.effect (prims_of c.in-Some.second.items) (prims_of c.in-Some.first.items) =
    rw (c.in-Some.is, c.effect.ensures, c.effect-2.ensures) at c.in_ok-second.ensures.answer in
    let by : prims_of c.as_slice-2.result.now ≡ inv_all (at_side c.args.e.now.side (prims_of c.in-Some.second.items) c.args.f.now.effect) =
    ap (λ z. prims_of z) c.as_slice-2.ensures.value ∙ c.in_ok-backwards.ensures ∙
    ap inv_all (picked (λ z. prims_of z) c.side.result _ c.pick.result.now c.as_slice.result.now c.effect-3.result.now _ _ c.pick.ensures c.side.ensures (ap (λ z. prims_of z) c.as_slice.ensures.value) c.effect-3.ensures) in
    let by2 : prims_of c.pick-forwards.result.now ≡ at_side c.args.f.now.side c.args.e.now.effect (prims_of c.in-Some.first.items) =
    picked (λ z. prims_of z) c.side-2.result _ c.pick-forwards.result.now c.effect-4.result.now c.as_slice-3.result.now _ _ c.pick-forwards.ensures c.side-2.ensures c.effect-4.ensures (ap (λ z. prims_of z) c.as_slice-3.ensures.value) in
    let ones : lists_of c.pick-ones.result.now ≡ at_side c.args.f.now.side c.args.e.now.shadows (lists_of c.in-Some-2.first_shadows.items) =
    picked (λ z. lists_of z) c.side-3.result _ c.pick-ones.result.now c.shadows-3.result.now c.as_slice-4.result.now _ _ c.pick-ones.ensures c.side-3.ensures c.shadows-3.ensures (ap (λ z. lists_of z) c.as_slice-4.ensures.value) in
    let others : lists_of c.pick-others.result.now ≡ at_side c.args.e.now.side (lists_of c.in-Some-3.second_shadows.items) c.args.f.now.shadows =
    picked (λ z. lists_of z) c.side-4.result _ c.pick-others.result.now c.as_slice-5.result.now c.shadows-4.result.now _ _ c.pick-others.ensures c.side-4.ensures (ap (λ z. lists_of z) c.as_slice-5.ensures.value) c.shadows-4.ensures in
    let y : c.in_ok-each_merges.field-0 ≡ true = cc in
    rw (c.new-first.ensures, c.new-second.ensures, c.side-5.ensures, c.side-6.ensures) (conflicts_commute c.args.e.now c.args.f.now
    (record { side = c.args.f.now.side; effect = prims_of c.in-Some.second.items; shadows = lists_of c.in-Some-3.second_shadows.items })
    (record { side = c.args.e.now.side; effect = prims_of c.in-Some.first.items; shadows = lists_of c.in-Some-2.first_shadows.items })
    refl refl effects
    (rw (c.in-Some-2.is, by, c.in_ok-copy_lists.ensures, c.shadows.ensures) at c.in_ok-first_shadows.ensures)
    (rw (c.in-Some-3.is, by2, c.in_ok-copy_lists-2.ensures, c.shadows-2.ensures) at c.in_ok-second_shadows.ensures)
    (rw (ones, others) at (c.in_ok-each_merges.ensures.0 y)))

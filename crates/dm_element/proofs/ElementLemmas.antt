-- The laws of elements that change places.
use Rattle.std.proofs.Common.{◌≡◌, List, [], ◌∷◌, ◌++◌, refl, sym, ap, ap₂, ◌∙◌, append_assoc, append-nil, arith}
use Rattle.dm_prim.specs.Rectangles.{CellRow, none, next, empty, row}
use Rattle.dm_prim.specs.Primitives.{Prim, inv, inv_all}
use Rattle.dm_prim.specs.Commuting.{Commutes, ListsCommute}
use Rattle.dm_prim.proofs.LawProofs.{lists_back, lists_past_inverse, lists_end_alike, inv_all-inv_all}
use Rattle.dm_prim.proofs.Ends.{inv_inv}
use Rattle.dm_prim.proofs.Single.{lists_one}
use Rattle.dm_prim.proofs.RectangleLemmas.{beside, one, along, narrow, rectangle_turn, rectangle_one}
use Rattle.dm_element.specs.declared.side.Side.{Side}
use Rattle.dm_element.specs.declared.side.Side.TheVariants.{After, Before}
use Rattle.dm_element.specs.Elements as elements
use Rattle.dm_element.specs.Elements.{Conflict, Element, Plain, Conflicted, effect_of, effects_of, shadows_of, side_of, other, inv_element, inv_elements, AreAlike, EachPasses, EachMerges, at_side, ElementCommutes, ElementListsCommute}
use Rattle.dm_element.specs.Laws.{ElementsCommuteBack, ElementsCommutePastAnInverse, OneWayToCommuteElements, PlainElementsCommute, InversesUndoEffects, ElementListsCommuteBack, ElementListsCommutePastAnInverse, ElementRectanglesTurn, OneWayToCommuteElementLists, ListInversesUndoEffects, EffectsCommute, CommutedElementsEndAlike, ElementsKeepTheirShape}
use Rattle.dm_element.proofs.ShadowLemmas.{each_passes_back, each_passes_one, each_passes_lengths, rectangle_lengths, each_merges_turn}

-- elements alike
alike_back : (e f : Element) → AreAlike e f → AreAlike f e
alike_back (Plain p) (Plain q) h = tt
alike_back (Conflicted c) (Conflicted d) h = sym h
alike_back (Plain p) (Conflicted d) h = absurd h
alike_back (Conflicted c) (Plain q) h = absurd h

pub alike_side : (e f : Element) → AreAlike e f → side_of e ≡ side_of f
alike_side (Plain p) (Plain q) h = refl
alike_side (Conflicted c) (Conflicted d) h = h
alike_side (Plain p) (Conflicted d) h = absurd h
alike_side (Conflicted c) (Plain q) h = absurd h

pub same_conflict : (c d : Conflict) → c.side ≡ d.side → c.effect ≡ d.effect → c.shadows ≡ d.shadows → c ≡ d
same_conflict c d a b s = λ i. record { side = a i; effect = b i; shadows = s i }

-- what an element does and its shadows decide it, among those that are like another one
same_element : (e f g : Element) → AreAlike e f → AreAlike e g → effect_of f ≡ effect_of g → shadows_of f ≡ shadows_of g → f ≡ g
same_element (Plain p) (Plain q) (Plain r) h k a b = let i : q ≡ r = cc in ap Plain i
same_element (Conflicted c) (Conflicted d) (Conflicted g) h k a b = ap Conflicted (same_conflict d g (sym h ∙ k) a b)
same_element (Plain p) (Conflicted d) g h k a b = absurd h
same_element (Plain p) (Plain q) (Conflicted d) h k a b = absurd k
same_element (Conflicted c) (Plain q) g h k a b = absurd h
same_element (Conflicted c) (Conflicted d) (Plain q) h k a b = absurd k

-- inverses
pub effect_inv : (e : Element) → effect_of (inv_element e) ≡ inv_all (effect_of e)
effect_inv (Plain p) = refl
effect_inv (Conflicted c) = refl

shadows_inv : (e : Element) → shadows_of (inv_element e) ≡ shadows_of e
shadows_inv (Plain p) = refl
shadows_inv (Conflicted c) = refl

other_other : (s : Side) → other (other s) ≡ s
other_other After = refl
other_other Before = refl

inv_element_twice : (e : Element) → inv_element (inv_element e) ≡ e
inv_element_twice (Plain p) = ap Plain (inv_inv p)
inv_element_twice (Conflicted c) = ap Conflicted (same_conflict _ c (other_other c.side) (inv_all-inv_all c.effect) refl)

alike_inv : (e f : Element) → AreAlike e f → AreAlike (inv_element e) (inv_element f)
alike_inv (Plain p) (Plain q) h = tt
alike_inv (Conflicted c) (Conflicted d) h = ap other h
alike_inv (Plain p) (Conflicted d) h = absurd h
alike_inv (Conflicted c) (Plain q) h = absurd h

at_side_inv : (s : Side) (e f : Element) → at_side s (inv_element e) (inv_element f) ≡ inv_element (at_side s e f)
at_side_inv After e f = refl
at_side_inv Before e f = refl

at_other_side : {X : Type 0} (s : Side) (x y : X) → at_side (other s) x y ≡ at_side s y x
at_other_side After x y = refl
at_other_side Before x y = refl

-- back
pub elements_back : ElementsCommuteBack
elements_back e f f' e' h =
    let a = alike_side e e' h.first_alike in
    let b = alike_side f f' h.second_alike in
    record {
      effects = lists_back (effect_of e) (effect_of f) (effect_of f') (effect_of e') h.effects;
      first_alike = alike_back f f' h.second_alike;
      second_alike = alike_back e e' h.first_alike;
      first_passes = rw (← b) (each_passes_back h.second_passes);
      second_passes = rw (← a) (rw (inv_all-inv_all (effect_of (at_side (side_of e) f' f))) at (each_passes_back h.first_passes));
      merge = rw (← a, ← b) (each_merges_turn _ _ h.merge);
    }

-- past an inverse
pub no_shadows_merge : (s : Side) (p q : Prim) (ks : List (List Prim)) → EachMerges (shadows_of (at_side s (Plain p) (Plain q))) ks
no_shadows_merge After p q ks k d l = absurd (omega arith)
no_shadows_merge Before p q ks k d l = absurd (omega arith)

first_past_inverse : (e f f' e' : Element) → AreAlike e e' → EachPasses (inv_all (effect_of (at_side (side_of e) f' f))) (shadows_of e) (shadows_of e') →
    EachPasses (inv_all (effect_of (at_side (side_of (inv_element e)) f f'))) (shadows_of (inv_element e)) (shadows_of (inv_element e'))
first_past_inverse (Plain p) f f' (Plain q) h k = elements.none
first_past_inverse (Conflicted c) f f' (Conflicted d) h k = rw (at_other_side c.side f f') k
first_past_inverse (Plain p) f f' (Conflicted d) h k = absurd h
first_past_inverse (Conflicted c) f f' (Plain q) h k = absurd h

merge_past_inverse : (s : Side) (e f f' e' : Element) → AreAlike e e' → EachMerges (shadows_of (at_side s e e')) (shadows_of (at_side (side_of e) f' f)) →
    EachMerges (shadows_of (at_side s (inv_element e) (inv_element e'))) (shadows_of (at_side (side_of (inv_element e)) f f'))
merge_past_inverse s (Plain p) f f' (Plain q) h k = no_shadows_merge s (inv p) (inv q) _
merge_past_inverse s (Conflicted c) f f' (Conflicted d) h k =
    rw (at_side_inv s (Conflicted c) (Conflicted d), shadows_inv (at_side s (Conflicted c) (Conflicted d)), at_other_side c.side f f') k
merge_past_inverse s (Plain p) f f' (Conflicted d) h k = absurd h
merge_past_inverse s (Conflicted c) f f' (Plain q) h k = absurd h

pub elements_past_inverse : ElementsCommutePastAnInverse
elements_past_inverse e f f' e' h =
    let b = alike_side f f' h.second_alike in
    record {
      effects = rw (effect_inv e, effect_inv e') (lists_past_inverse (effect_of e) (effect_of f) (effect_of f') (effect_of e') h.effects);
      first_alike = alike_inv e e' h.first_alike;
      second_alike = alike_back f f' h.second_alike;
      first_passes = first_past_inverse e f f' e' h.first_alike h.first_passes;
      second_passes = rw (← b, at_side_inv (side_of f) e e', effect_inv (at_side (side_of f) e e')) (each_passes_back h.second_passes);
      merge = rw (← b) (merge_past_inverse (side_of f) e f f' e' h.first_alike h.merge);
    }

-- one answer
at_side_effect : (s : Side) (e f g : Element) → effect_of f ≡ effect_of g → effect_of (at_side s e f) ≡ effect_of (at_side s e g)
at_side_effect After e f g h = h
at_side_effect Before e f g h = refl

side_at_effect : (s : Side) (e f g : Element) → effect_of f ≡ effect_of g → effect_of (at_side s f e) ≡ effect_of (at_side s g e)
side_at_effect After e f g h = refl
side_at_effect Before e f g h = h

pub elements_one : OneWayToCommuteElements
elements_one e f f1 e1 f2 e2 h k =
    let a = lists_one h.effects k.effects in
    let b = side_at_effect (side_of e) f f1 f2 a.0 in
    let c = at_side_effect (side_of f) e e1 e2 a.1 in (
      same_element f f1 f2 h.second_alike k.second_alike a.0 (each_passes_one (rw c at h.second_passes) k.second_passes),
      same_element e e1 e2 h.first_alike k.first_alike a.1 (each_passes_one (rw b at h.first_passes) k.first_passes),
    )

pub elements_keep_shape : ElementsKeepTheirShape
elements_keep_shape e f f' e' h =
    let l = rectangle_lengths h.effects in (
      record { alike = h.first_alike; effect = l.1; shadows = each_passes_lengths h.first_passes },
      record { alike = h.second_alike; effect = l.0; shadows = each_passes_lengths h.second_passes },
    )

-- plain elements
one_cell : {p q : Prim} {ys xs : List Prim} → ListsCommute (p ∷ []) (q ∷ []) ys xs → (q' : Prim) × (p' : Prim) × (ys ≡ q' ∷ []) × (xs ≡ p' ∷ []) × Commutes p q q' p'
one_cell (row empty (next {y' = q'} {x1 = p'} c none)) = (q', p', refl, refl, c)

pub plain_from : (p q : Prim) (f' e' : Element) → ElementCommutes (Plain p) (Plain q) f' e' → (q' : Prim) × (p' : Prim) × (f' ≡ Plain q') × (e' ≡ Plain p') × Commutes p q q' p'
plain_from p q (Plain q') (Plain p') h =
    let r = one_cell h.effects in
    let a : q' ≡ r.0 = cc in let b : p' ≡ r.1 = cc in (r.0, r.1, ap Plain a, ap Plain b, r.4)
plain_from p q (Conflicted c) e' h = absurd h.second_alike
plain_from p q (Plain q') (Conflicted c) h = absurd h.first_alike

pub plain_to : (p q q' p' : Prim) → Commutes p q q' p' → ElementCommutes (Plain p) (Plain q) (Plain q') (Plain p')
plain_to p q q' p' c = record { effects = row empty (next c none); first_alike = tt; second_alike = tt; first_passes = elements.none; second_passes = elements.none; merge = no_shadows_merge After p p' [] }

pub plains_commute : PlainElementsCommute
plains_commute p q f' e' = (plain_from p q f' e', λ (q', p', a, b, c). rw (a, b) (plain_to p q q' p' c))

pub inverses_undo : InversesUndoEffects
inverses_undo e = (effect_inv e, inv_element_twice e)

-- lists
pub element_lists_back : ElementListsCommuteBack
element_lists_back es fs fs' es' g = rectangle_turn Element ElementCommutes elements_back g

cells_past_inverse : {e e' : Element} {fs fs' : List Element} → CellRow ElementCommutes e fs fs' e' → CellRow ElementCommutes (inv_element e) fs' fs (inv_element e')
cells_past_inverse none = none
cells_past_inverse (next {x = e} {y = f} {y' = f'} {x1 = e'} c s) = next (elements_past_inverse e f f' e' c) (cells_past_inverse s)

past_inverse : {es fs fs' es' : List Element} → ElementListsCommute es fs fs' es' → ElementListsCommute (inv_elements es) fs' fs (inv_elements es')
past_inverse empty = empty
past_inverse (row g s) = beside Element ElementCommutes (one Element ElementCommutes (cells_past_inverse s)) (past_inverse g)

pub element_lists_past_inverse : ElementListsCommutePastAnInverse
element_lists_past_inverse es fs fs' es' g = past_inverse g

inv_elements-append : (es fs : List Element) → inv_elements (es ++ fs) ≡ inv_elements fs ++ inv_elements es
inv_elements-append [] fs = sym (append-nil (inv_elements fs))
inv_elements-append (e ∷ es) fs = rw (inv_elements-append es fs) (append_assoc (inv_elements fs) (inv_elements es) (inv_element e ∷ []))

inv_elements_twice : (es : List Element) → inv_elements (inv_elements es) ≡ es
inv_elements_twice [] = refl
inv_elements_twice (e ∷ es) = inv_elements-append (inv_elements es) (inv_element e ∷ []) ∙ ap₂ (λ a b. a ∷ b) (inv_element_twice e) (inv_elements_twice es)

pub element_rectangles_turn : ElementRectanglesTurn
element_rectangles_turn r n n' r' g =
    let a : ElementListsCommute r n' n r' = rw (inv_elements_twice r, inv_elements_twice r') at (element_lists_past_inverse (inv_elements r) n n' (inv_elements r') g) in
    element_lists_past_inverse n r' r n' (element_lists_back r n' n r' a)

pub element_lists_one : OneWayToCommuteElementLists
element_lists_one es fs fs1 es1 fs2 es2 g h = rectangle_one Element ElementCommutes elements_one g h

effects_of-append : (es fs : List Element) → effects_of (es ++ fs) ≡ effects_of es ++ effects_of fs
effects_of-append [] fs = refl
effects_of-append (e ∷ es) fs = rw (effects_of-append es fs) (sym (append_assoc (effect_of e) (effects_of es) (effects_of fs)))

inv_all-append : (xs ys : List Prim) → inv_all (xs ++ ys) ≡ inv_all ys ++ inv_all xs
inv_all-append [] ys = sym (append-nil (inv_all ys))
inv_all-append (x ∷ xs) ys = rw (inv_all-append xs ys) (append_assoc (inv_all ys) (inv_all xs) (inv x ∷ []))

effects_inv : (es : List Element) → effects_of (inv_elements es) ≡ inv_all (effects_of es)
effects_inv [] = refl
effects_inv (e ∷ es) = effects_of-append (inv_elements es) (inv_element e ∷ []) ∙ ap₂ (λ a b. a ++ b) (effects_inv es) (append-nil (effect_of (inv_element e)) ∙ effect_inv e) ∙ sym (inv_all-append (effect_of e) (effects_of es))

pub list_inverses_undo : ListInversesUndoEffects
list_inverses_undo es = (effects_inv es, inv_elements_twice es)

-- effects
row_of_effects : {e e' : Element} {fs fs' : List Element} → CellRow ElementCommutes e fs fs' e' → ListsCommute (effect_of e) (effects_of fs) (effects_of fs') (effect_of e')
row_of_effects (none {x = e}) = narrow Prim Commutes (effect_of e)
row_of_effects (next c s) = along Prim Commutes c.effects (row_of_effects s)

rectangle_of_effects : {es fs fs' es' : List Element} → ElementListsCommute es fs fs' es' → ListsCommute (effects_of es) (effects_of fs) (effects_of fs') (effects_of es')
rectangle_of_effects empty = empty
rectangle_of_effects (row g s) = beside Prim Commutes (rectangle_of_effects g) (row_of_effects s)

pub effects_do : EffectsCommute
effects_do es fs fs' es' g = rectangle_of_effects g

pub elements_end_alike : CommutedElementsEndAlike
elements_end_alike es fs fs' es' g s u z h k = lists_end_alike (effects_of es) (effects_of fs) (effects_of fs') (effects_of es') (rectangle_of_effects g) s u z h k

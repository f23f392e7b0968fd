-- Conflicts that change places, by their parts.
use Rattle.std.proofs.Common.{◌≡◌, List, [], ◌∷◌, Option, Some, None, Result, Ok, Err, IfOk, length, refl, sym, ap, ◌∙◌}
use Rattle.std.proofs.lemmas.List.{length-map}
use Rattle.dm_prim.specs.Primitives.{Prim, inv_all}
use Rattle.dm_prim.specs.Prims.{prim_of, prims_of}
use Rattle.dm_prim.specs.declared.primitive.Primitive as primitives
use Rattle.dm_prim.specs.Commuting.{Commutes, ListsCommute}
use Rattle.dm_prim.proofs.Single.{lists_one}
use Rattle.dm_prim.proofs.LawProofs.{lists_end_alike}
use Rattle.dm_element.specs.declared.side.Side.{Side}
use Rattle.dm_element.specs.declared.side.Side.TheVariants.{After, Before}
use Rattle.dm_element.specs.Elements.{Conflict, Element, Plain, Conflicted, effect_of, shadows_of, EachPasses, none, EachMerges, at_side, ElementCommutes}
use Rattle.dm_element.specs.Laws.{ElementLaws}
use Rattle.dm_element.specs.declared.element.Element as values
use Rattle.dm_element.specs.Values.{ElementsCommuteTo, ElementLawsHold}
use Rattle.dm_element.proofs.ShadowLemmas.{rectangle_lengths, each_passes_one, each_merges_turn}
use Rattle.dm_element.proofs.ElementLemmas.{elements_back, elements_past_inverse, plain_from, no_shadows_merge}

-- of the parts of two, the one on a side
at_side_of : {X Y : Type 0} (f : X → Y) (s : Side) (x y : X) → f (at_side s x y) ≡ at_side s (f x) (f y)
at_side_of f After x y = refl
at_side_of f Before x y = refl

effect_at : (s : Side) (c d : Conflict) → effect_of (at_side s (Conflicted c) (Conflicted d)) ≡ at_side s c.effect d.effect
effect_at s c d = at_side_of effect_of s (Conflicted c) (Conflicted d)

shadows_at : (s : Side) (c d : Conflict) → shadows_of (at_side s (Conflicted c) (Conflicted d)) ≡ at_side s c.shadows d.shadows
shadows_at s c d = at_side_of shadows_of s (Conflicted c) (Conflicted d)

module _ (c d : Conflict) where
  pub conflicts_commute : (d' c' : Conflict) → c.side ≡ c'.side → d.side ≡ d'.side → ListsCommute c.effect d.effect d'.effect c'.effect →
      EachPasses (inv_all (at_side c.side d'.effect d.effect)) c.shadows c'.shadows → EachPasses (at_side d.side c.effect c'.effect) d.shadows d'.shadows →
      EachMerges (at_side d.side c.shadows c'.shadows) (at_side c.side d'.shadows d.shadows) → ElementCommutes (Conflicted c) (Conflicted d) (Conflicted d') (Conflicted c')
  conflicts_commute d' c' a b g x y m = record {
    effects = g;
    first_alike = a;
    second_alike = b;
    first_passes = rw (effect_at c.side d' d) x;
    second_passes = rw (effect_at d.side c c') y;
    merge = rw (shadows_at d.side c c', shadows_at c.side d' d) m;
  }

  pub no_effects : ((ys xs : List Prim) → ListsCommute c.effect d.effect ys xs → ⊥) → (d' c' : Conflict) → ElementCommutes (Conflicted c) (Conflicted d) (Conflicted d') (Conflicted c') → ⊥
  no_effects n d' c' h = n d'.effect c'.effect h.effects

  -- what the effects become is known, and so what the shadows pass
  module _ (second first : List Prim) (g : ListsCommute c.effect d.effect second first) (d' c' : Conflict) (h : ElementCommutes (Conflicted c) (Conflicted d) (Conflicted d') (Conflicted c')) where
    first_from : EachPasses (inv_all (at_side c.side second d.effect)) c.shadows c'.shadows
    first_from = rw ((lists_one h.effects g).0) at (rw (effect_at c.side d' d) at h.first_passes)

    second_from : EachPasses (at_side d.side c.effect first) d.shadows d'.shadows
    second_from = rw ((lists_one h.effects g).1) at (rw (effect_at d.side c c') at h.second_passes)

    pub no_first : ((ms : List (List Prim)) → EachPasses (inv_all (at_side c.side second d.effect)) c.shadows ms → ⊥) → ⊥
    no_first n = n c'.shadows first_from

    pub no_second : ((ks : List (List Prim)) → EachPasses (at_side d.side c.effect first) d.shadows ks → ⊥) → ⊥
    no_second n = n d'.shadows second_from

    pub no_merge : (ms ks : List (List Prim)) → EachPasses (inv_all (at_side c.side second d.effect)) c.shadows ms → EachPasses (at_side d.side c.effect first) d.shadows ks →
        (EachMerges (at_side d.side c.shadows ms) (at_side c.side ks d.shadows) → ⊥) → ⊥
    no_merge ms ks x y n =
        let a : c'.shadows ≡ ms = each_passes_one first_from x in
        let b : d'.shadows ≡ ks = each_passes_one second_from y in
        n (rw (a, b) at (rw (shadows_at d.side c c', shadows_at c.side d' d) at h.merge))

-- a primitive, then a conflict
module _ (p : Prim) (d : Conflict) where
  pub plain_then : (p' : Prim) (second : List Prim) (ks : List (List Prim)) → ListsCommute (p ∷ []) d.effect second (p' ∷ []) → EachPasses (at_side d.side (p ∷ []) (p' ∷ [])) d.shadows ks →
      ElementCommutes (Plain p) (Conflicted d) (Conflicted (record { side = d.side; effect = second; shadows = ks })) (Plain p')
  plain_then p' second ks g k = record {
    effects = g;
    first_alike = tt;
    second_alike = refl;
    first_passes = none;
    second_passes = rw (at_side_of effect_of d.side (Plain p) (Plain p')) k;
    merge = no_shadows_merge d.side p p' d.shadows;
  }

  pub plain_no_effects : ((ys xs : List Prim) → ListsCommute (p ∷ []) d.effect ys xs → ⊥) → (f' e' : Element) → ElementCommutes (Plain p) (Conflicted d) f' e' → ⊥
  plain_no_effects n f' e' h = n (effect_of f') (effect_of e') h.effects

  pub plain_no_shadows : (second first : List Prim) → ListsCommute (p ∷ []) d.effect second first → ((ks : List (List Prim)) → EachPasses (at_side d.side (p ∷ []) first) d.shadows ks → ⊥) →
      (f' e' : Element) → ElementCommutes (Plain p) (Conflicted d) f' e' → ⊥
  plain_no_shadows second first g n f' e' h = n (shadows_of f') (rw ((lists_one h.effects g).1) at (rw (at_side_of effect_of d.side (Plain p) e') at h.second_passes))

-- a conflict, then a primitive
module _ (c : Conflict) (q : Prim) where
  pub then_plain : (q' : Prim) (first : List Prim) (ms : List (List Prim)) → ListsCommute c.effect (q ∷ []) (q' ∷ []) first → EachPasses (inv_all (at_side c.side (q' ∷ []) (q ∷ []))) c.shadows ms →
      ElementCommutes (Conflicted c) (Plain q) (Plain q') (Conflicted (record { side = c.side; effect = first; shadows = ms }))
  then_plain q' first ms g k = record {
    effects = g;
    first_alike = refl;
    second_alike = tt;
    first_passes = rw (at_side_of effect_of c.side (Plain q') (Plain q)) k;
    second_passes = none;
    merge = each_merges_turn _ _ (no_shadows_merge c.side q' q ms);
  }

  pub no_effects_plain : ((ys xs : List Prim) → ListsCommute c.effect (q ∷ []) ys xs → ⊥) → (f' e' : Element) → ElementCommutes (Conflicted c) (Plain q) f' e' → ⊥
  no_effects_plain n f' e' h = n (effect_of f') (effect_of e') h.effects

  pub no_shadows_plain : (second first : List Prim) → ListsCommute c.effect (q ∷ []) second first → ((ms : List (List Prim)) → EachPasses (inv_all (at_side c.side second (q ∷ []))) c.shadows ms → ⊥) →
      (f' e' : Element) → ElementCommutes (Conflicted c) (Plain q) f' e' → ⊥
  no_shadows_plain second first g n f' e' h = n (shadows_of e') (rw ((lists_one h.effects g).0) at (rw (at_side_of effect_of c.side f' (Plain q)) at h.first_passes))

pub element_laws : {e f f' e' : Element} → ElementCommutes e f f' e' → ElementLaws e f f' e'
element_laws {e} {f} {f'} {e'} h = record {
  ends_alike = lists_end_alike (effect_of e) (effect_of f) (effect_of f') (effect_of e') h.effects;
  back = elements_back e f f' e' h;
  past_inverse = elements_past_inverse e f f' e' h;
}

-- what is read of the one that was picked
pub picked : {X Y : Type 0} (read : X → Y) (s s' : Side) (r x y : X) (a b : Y) → r ≡ at_side s x y → s ≡ s' → read x ≡ a → read y ≡ b → read r ≡ at_side s' a b
picked read s s' r x y a b e i h k = ap read e ∙ at_side_of read s x y ∙ rw (i, h, k)

-- none where there is none of that kind
pub no_conflicts : (c d : Conflict) → ((d' c' : Conflict) → ElementCommutes (Conflicted c) (Conflicted d) (Conflicted d') (Conflicted c') → ⊥) → (f' e' : Element) → ElementCommutes (Conflicted c) (Conflicted d) f' e' → ⊥
no_conflicts c d n (Conflicted d') (Conflicted c') h = n d' c' h
no_conflicts c d n (Plain q) e' h = absurd h.second_alike
no_conflicts c d n (Conflicted d') (Plain q) h = absurd h.first_alike

pub no_plains : (p q : Prim) → ((q' p' : Prim) → Commutes p q q' p' → ⊥) → (f' e' : Element) → ElementCommutes (Plain p) (Plain q) f' e' → ⊥
no_plains p q n f' e' h = let r = plain_from p q f' e' h in n r.0 r.1 r.4

pub laws_of : {Z E : Type 0} (e f : Element) (r : Result (Option (values.Element Z × values.Element Z)) E) → IfOk r (ElementsCommuteTo e f) → IfOk r (ElementLawsHold e f)
laws_of e f (Ok None) h = tt
laws_of e f (Ok (Some r)) h = element_laws h
laws_of e f (Err x) h = tt

-- one primitive becomes one
pub one_left : {Z : Type 0} {xs ys ys' : List Prim} (ps : List (primitives.Primitive Z)) → ListsCommute xs ys ys' (prims_of ps) → length xs ≡ 1 → length ps ≡ 1
one_left ps g l = sym (length-map ps prim_of) ∙ (rectangle_lengths g).1 ∙ l

pub one_right : {Z : Type 0} {xs ys xs' : List Prim} (ps : List (primitives.Primitive Z)) → ListsCommute xs ys (prims_of ps) xs' → length ys ≡ 1 → length ps ≡ 1
one_right ps g l = sym (length-map ps prim_of) ∙ (rectangle_lengths g).0 ∙ l

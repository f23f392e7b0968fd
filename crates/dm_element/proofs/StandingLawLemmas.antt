-- The laws of elements that stand.
use Rattle.std.proofs.Common.{◌≡◌, ℕ, ◌<◌, ◌⊎◌, inl, inr, List, [], ◌∷◌, ◌++◌, length, All, Option, Some, None, sym, ap, ap₂, refl, ◌∙◌, arith, length-append}
use Rattle.std.proofs.Math.Seq.{get_or-append_seam}
use Rattle.std.proofs.lemmas.Bool.{cases_order}
use Rattle.std.proofs.lemmas.List.Elements.{All-nil, All-cons, All-head, All-tail}
use Rattle.dm_prim.specs.InTurn.{InTurn, done, step}
use Rattle.dm_prim.specs.Primitives.{Prim, inv_all, LawfulMap, Leads, LeadsAll}
use Rattle.dm_prim.proofs.LawProofs.{lists_end_alike, list_inverses_lead_back}
use Rattle.dm_prim.proofs.RectangleLemmas.{runs_on, rectangle_runs}
use Rattle.dm_element.specs.declared.side.Side.{Side}
use Rattle.dm_element.specs.declared.side.Side.TheVariants.{After, Before}
use Rattle.dm_element.specs.declared.standing.Fallen.{Fallen}
use Rattle.dm_element.specs.Elements as elements
use Rattle.dm_element.specs.Elements.{Conflict, Element, Plain, Conflicted, effect_of, effects_of, shadows_of, side_of, other, inv_element, inv_elements, at_side, Passes, EachPasses, ElementCommutes}
use Rattle.dm_element.specs.Standing.{LeadsWithin, Stands, StandsBetween, StandAll, IsFirstFallen, Falls, IsFallen}
use Rattle.dm_element.specs.Laws.{IsPlainElement, StandingElementsLead, PlainElementsStand, PlainElementsFall, FrontsStand, OneFallen, StandingWithinLimits, CommutedElementsStand, InversesStand}
use Rattle.dm_element.proofs.ElementLemmas.{alike_side}
use Rattle.dm_element.proofs.SettledLemmas.{same_parts}
use Rattle.dm_element.proofs.StandingLemmas.{runs_one, runs_part, leads_one, stands_one, plain_stands}

-- effects
pub elements_lead : StandingElementsLead
elements_lead [] s t done = done
elements_lead (e ∷ es) s t (step {u = u} h r) = runs_on Prim LawfulMap LeadsWithin h.effect (elements_lead es u t r)

plain_back : (es : List Element) (s t : LawfulMap) → All IsPlainElement es → InTurn LeadsWithin (effects_of es) s t → StandAll LeadsWithin es s t
plain_back [] s t a done = done
plain_back (Plain p ∷ es) s t a (step {u = u} h r) = step (plain_stands h) (plain_back es u t (All-tail IsPlainElement (Plain p) es a) r)
plain_back (Conflicted c ∷ es) s t a r = absurd (All-head IsPlainElement (Conflicted c) es a)

pub plains_stand : PlainElementsStand
plains_stand es s t a = (elements_lead es s t, plain_back es s t a)

-- fronts
pub front_stands : FrontsStand
front_stands es fs s t h = runs_part es h

-- the first that falls
seam : {X : Type 0} (P : X → Type 0) (xs cs : List X) (x : X) → All P (xs ++ x ∷ cs) → P x
seam P xs cs x h = rw (get_or-append_seam xs x cs x) at (h (length xs) x (let k = length-append xs (x ∷ cs) in omega (arith, k)))

longer : {X : Type 0} (xs ys cs ds : List X) (x y : X) → xs ++ x ∷ cs ≡ ys ++ y ∷ ds → length xs < length ys → (zs : List X) × (ys ≡ xs ++ x ∷ zs)
longer [] [] cs ds x y e l = absurd (omega (arith, l))
longer [] (b ∷ ys) cs ds x y e l = let h : x ≡ b = cc in (ys, ap (λ v. v ∷ ys) (sym h))
longer (a ∷ xs) [] cs ds x y e l = absurd (omega (arith, l))
longer (a ∷ xs) (b ∷ ys) cs ds x y e l =
    let h : a ≡ b = cc in
    let t : xs ++ x ∷ cs ≡ ys ++ y ∷ ds = cc in
    let r = longer xs ys cs ds x y t (omega (arith, l)) in (r.0, ap₂ (λ p q. p ∷ q) (sym h) r.1)

no_earlier_shadow : {ms : List (List Prim)} {s : LawfulMap} {j k : ℕ} → IsFirstFallen ms s j → IsFirstFallen ms s k → j < k → ⊥
no_earlier_shadow {s = s} f g l =
    let r = longer f.before g.before f.after g.after f.shadow g.shadow (sym f.whole ∙ g.whole) (omega (arith, l, f.at_place, g.at_place)) in
    f.falls (seam (λ m. Stands LeadsWithin m s) f.before r.0 f.shadow (rw r.1 at g.stand))

first_one : {ms : List (List Prim)} {s : LawfulMap} {j k : ℕ} → IsFirstFallen ms s j → IsFirstFallen ms s k → j ≡ k
first_one {j = j} {k = k} f g = go (cases_order j k)
  where
    go : (j ≡ k) ⊎ ((j < k) ⊎ (k < j)) → j ≡ k
    go (inl e) = e
    go (inr (inl l)) = absurd (no_earlier_shadow f g l)
    go (inr (inr l)) = absurd (no_earlier_shadow g f l)

falls_not : (e : Element) (s t : LawfulMap) (o : Option ℕ) → Falls e s o → StandsBetween LeadsWithin e s t → ⊥
falls_not e s t None n h = n (t, h.effect)
falls_not e s t (Some k) (u, i, f) h =
    let w : t ≡ u = runs_one leads_one h.effect i in
    let a : All (λ m. Stands LeadsWithin m (at_side (side_of e) s u)) (shadows_of e) = rw w at h.shadows in
    f.falls (seam (λ m. Stands LeadsWithin m (at_side (side_of e) s u)) f.before f.after f.shadow (rw f.whole at a))

falls_one : (e : Element) (s : LawfulMap) (o q : Option ℕ) → Falls e s o → Falls e s q → o ≡ q
falls_one e s None None n m = refl
falls_one e s None (Some k) n (u, i, f) = absurd (n (u, i))
falls_one e s (Some k) None (u, i, f) n = absurd (n (u, i))
falls_one e s (Some j) (Some k) (u, i, f) (v, l, g) =
    let w : v ≡ u = runs_one leads_one l i in
    ap Some (first_one f (rw w at g))

fallen_not : {es : List Element} {s : LawfulMap} {f : Fallen} → IsFallen es s f → (t : LawfulMap) → StandAll LeadsWithin es s t → ⊥
fallen_not {es} {s} {f} h t r = go (runs_part h.before (rw h.whole at r))
  where
    go : (v : LawfulMap) × StandAll LeadsWithin h.before s v × StandAll LeadsWithin (h.element ∷ h.after) v t → ⊥
    go (v, a, step {u = u} b c) = let w : v ≡ h.reached = runs_one stands_one a h.stand in falls_not h.element h.reached u f.shadow h.falls (rw w at b)

no_earlier : {es : List Element} {s : LawfulMap} {f g : Fallen} → IsFallen es s f → IsFallen es s g → f.element < g.element → ⊥
no_earlier {es} {s} {f} {g} h k l =
    let r = longer h.before k.before h.after k.after h.element k.element (sym h.whole ∙ k.whole) (omega (arith, l, h.at_place, k.at_place)) in
    let i : IsFallen k.before s f = record { before = h.before; element = h.element; after = r.0; whole = r.1; at_place = h.at_place; reached = h.reached; stand = h.stand; falls = h.falls } in
    fallen_not i k.reached k.stand

same_fallen : (f g : Fallen) → f.element ≡ g.element → f.shadow ≡ g.shadow → f ≡ g
same_fallen f g a b = λ i. record { element = a i; shadow = b i }

fallen_one : {es : List Element} {s : LawfulMap} (f g : Fallen) → IsFallen es s f → IsFallen es s g → f ≡ g
fallen_one {es} {s} f g h k = go (cases_order f.element g.element)
  where
    go : (f.element ≡ g.element) ⊎ ((f.element < g.element) ⊎ (g.element < f.element)) → f ≡ g
    go (inl e) =
        let r = same_parts h.before k.before h.after k.after h.element k.element (sym h.whole ∙ k.whole) (h.at_place ∙ e ∙ sym k.at_place) in
        let w : k.reached ≡ h.reached = runs_one stands_one k.stand (rw r.0 at h.stand) in
        same_fallen f g e (falls_one h.element h.reached f.shadow g.shadow h.falls (rw (← r.1, w) at k.falls))
    go (inr (inl l)) = absurd (no_earlier h k l)
    go (inr (inr l)) = absurd (no_earlier k h l)

pub one_answer : OneFallen
one_answer es s None None h k = refl
one_answer es s None (Some g) h k = absurd (fallen_not k h.0 h.1)
one_answer es s (Some f) None h k = absurd (fallen_not h k.0 k.1)
one_answer es s (Some f) (Some g) h k = ap Some (fallen_one f g h k)

-- primitives have no shadow that falls
no_shadow : (p : Prim) (s : LawfulMap) (o : Option ℕ) → Falls (Plain p) s o → o ≡ None
no_shadow p s None n = refl
no_shadow p s (Some k) (t, i, f) = let size = ap length f.whole ∙ length-append f.before (f.shadow ∷ f.after) in absurd (omega (arith, size))

plain_shadow : (e : Element) (s : LawfulMap) (o : Option ℕ) → IsPlainElement e → Falls e s o → o ≡ None
plain_shadow (Plain p) s o a h = no_shadow p s o h
plain_shadow (Conflicted c) s o a h = absurd a

pub plains_fall : PlainElementsFall
plains_fall es s f a h = (
  plain_shadow h.element h.reached f.shadow (seam IsPlainElement h.before h.after h.element (rw h.whole at a)) h.falls,
  λ k. fallen_not h k.0 (plain_back es s k.0 a k.1),
)

-- without the limits
leads_only : {ps : List Prim} {s t : LawfulMap} → InTurn LeadsWithin ps s t → InTurn Leads ps s t
leads_only done = done
leads_only (step h r) = step h.leads (leads_only r)

pub stands_only : StandingWithinLimits
stands_only [] s t done = done
stands_only (e ∷ es) s t (step {u = u} h r) =
    step (record { effect = leads_only h.effect; shadows = λ k d l. let a = h.shadows k d l in (a.0, leads_only a.1) }) (stands_only es u t r)

-- elements that change places
passed_stands : {xs m m' : List Prim} {s t : LawfulMap} → LeadsAll xs s t → Passes xs m m' → Stands Leads m t → Stands Leads m' s
passed_stands {xs} {m} {m'} {s} {t} h p (z, k) = let r = lists_end_alike xs m m' p.passed p.commute s t z h k in (r.0, r.1)

each_stands : {xs : List Prim} {ms ms' : List (List Prim)} {s t : LawfulMap} → LeadsAll xs s t → EachPasses xs ms ms' → All (λ m. Stands Leads m t) ms → All (λ m. Stands Leads m s) ms'
each_stands h elements.none a = All-nil _
each_stands {s = s} {t = t} h (elements.next {m} {m'} {ms} {ms'} p q) a =
    All-cons (λ k. Stands Leads k s) m' ms' (passed_stands h p (All-head (λ k. Stands Leads k t) m ms a)) (each_stands h q (All-tail (λ k. Stands Leads k t) m ms a))

module _ (e f f' e' : Element) (c : ElementCommutes e f f' e') (s u z : LawfulMap) (h : StandsBetween Leads e s u) (k : StandsBetween Leads f u z) where
  ends : (m : LawfulMap) × LeadsAll (effect_of f') s m × LeadsAll (effect_of e') m z
  ends = lists_end_alike (effect_of e) (effect_of f) (effect_of f') (effect_of e') c.effects s u z h.effect k.effect

  pub pair_stands : (m : LawfulMap) × StandsBetween Leads f' s m × StandsBetween Leads e' m z
  pair_stands = let (m, x, y) = ends in (m, record { effect = x; shadows = second m y }, record { effect = y; shadows = first m x })
    where
      by_second : (d : Side) (m : LawfulMap) → LeadsAll (effect_of e') m z → LeadsAll (effect_of (at_side d e e')) (at_side d s m) (at_side d u z)
      by_second After m y = y
      by_second Before m y = h.effect

      second : (m : LawfulMap) → LeadsAll (effect_of e') m z → All (λ l. Stands Leads l (at_side (side_of f') s m)) (shadows_of f')
      second m y = rw (← alike_side f f' c.second_alike) (each_stands (by_second (side_of f) m y) c.second_passes k.shadows)

      by_first : (d : Side) (m : LawfulMap) → LeadsAll (effect_of f') s m → LeadsAll (inv_all (effect_of (at_side d f' f))) (at_side d m z) (at_side d s u)
      by_first After m x = (list_inverses_lead_back (effect_of f) u z).0 k.effect
      by_first Before m x = (list_inverses_lead_back (effect_of f') s m).0 x

      first : (m : LawfulMap) → LeadsAll (effect_of f') s m → All (λ l. Stands Leads l (at_side (side_of e') m z)) (shadows_of e')
      first m x = rw (← alike_side e e' c.first_alike) (each_stands (by_first (side_of e) m x) c.first_passes h.shadows)

pub commuted_stand : CommutedElementsStand
commuted_stand es fs fs' es' g s u z h k = rectangle_runs Element LawfulMap ElementCommutes (StandsBetween Leads) pair_stands g h k

-- inverses
turned : {X : Type 0} (d : Side) (x y : X) → at_side (other d) y x ≡ at_side d x y
turned After x y = refl
turned Before x y = refl

inverse_stands : (e : Element) (s t : LawfulMap) → StandsBetween Leads e s t → StandsBetween Leads (inv_element e) t s
inverse_stands (Plain p) s t h = record { effect = (list_inverses_lead_back (p ∷ []) s t).0 h.effect; shadows = All-nil _ }
inverse_stands (Conflicted c) s t h = record { effect = (list_inverses_lead_back c.effect s t).0 h.effect; shadows = rw (turned c.side s t) h.shadows }

pub inverses_do : InversesStand
inverses_do [] s t done = done
inverses_do (e ∷ es) s t (step {u = u} h r) = runs_on Element LawfulMap (StandsBetween Leads) (inverses_do es u t r) (step (inverse_stands e s u h) done)

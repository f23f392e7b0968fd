-- What holds of all elements that change places, and of all lists of them.
use Rattle.std.specs.Prelude.{◌≡◌, ◌↔◌, ℕ, List, [], ◌∷◌, ◌++◌, length, map, All, Option, None}
use Rattle.dm_prim.specs.InTurn.{InTurn}
use Rattle.dm_prim.specs.Primitives.{Prim, inv_all, LawfulMap, Leads, LeadsAll}
use Rattle.dm_prim.specs.Commuting.{Commutes, ListsCommute}
use Rattle.dm_element.specs.Elements.{Element, Plain, Conflicted, effect_of, effects_of, shadows_of, AreAlike, inv_element, inv_elements, ElementCommutes, ElementListsCommute, Merge}
use Rattle.dm_element.specs.declared.standing.Fallen.{Fallen}
use Rattle.dm_element.specs.Standing.{LeadsWithin, Stands, StandAll, IsFallen, FindsFallen}
use Rattle.dm_element.specs.Settled.{Patch, IsSettledPatch, AreSettled, IsFirstUnsettled}

-- what holds of a pair that changes places
pub record ElementLaws (e f f' e' : Element) : Type 0 where
  -- every lawful map on which their effects apply in turn has the same end by the other two
  pub ends_alike : (s u z : LawfulMap) → LeadsAll (effect_of e) s u → LeadsAll (effect_of f) u z → (m : LawfulMap) × LeadsAll (effect_of f') s m × LeadsAll (effect_of e') m z
  pub back : ElementCommutes f' e' e f
  pub past_inverse : ElementCommutes (inv_element e) f' f (inv_element e')

-- the same, of two lists
pub record ElementListLaws (es fs fs' es' : List Element) : Type 0 where
  pub ends_alike : (s u z : LawfulMap) → LeadsAll (effects_of es) s u → LeadsAll (effects_of fs) u z → (m : LawfulMap) × LeadsAll (effects_of fs') s m × LeadsAll (effects_of es') m z
  pub back : ElementListsCommute fs' es' es fs
  pub past_inverse : ElementListsCommute (inv_elements es) fs' fs (inv_elements es')

-- what changed places changes places back
abbrev pub ElementsCommuteBack : Type 0
ElementsCommuteBack = (e f f' e' : Element) → ElementCommutes e f f' e' → ElementCommutes f' e' e f

-- f' changes places with the inverse of e
abbrev pub ElementsCommutePastAnInverse : Type 0
ElementsCommutePastAnInverse = (e f f' e' : Element) → ElementCommutes e f f' e' → ElementCommutes (inv_element e) f' f (inv_element e')

-- at most one answer
abbrev pub OneWayToCommuteElements : Type 0
OneWayToCommuteElements = (e f f1 e1 f2 e2 : Element) → ElementCommutes e f f1 e1 → ElementCommutes e f f2 e2 → (f1 ≡ f2) × (e1 ≡ e2)

-- both stay what they are: of their kind, with their shadows on the same side, with as many shadows, and with as many primitives in each and in the effect
pub record IsOfShape (e e' : Element) : Type 0 where
  pub alike : AreAlike e e'
  pub effect : length (effect_of e') ≡ length (effect_of e)
  pub shadows : map length (shadows_of e') ≡ map length (shadows_of e)

abbrev pub ElementsKeepTheirShape : Type 0
ElementsKeepTheirShape = (e f f' e' : Element) → ElementCommutes e f f' e' → IsOfShape e e' × IsOfShape f f'

-- of plain elements it is what primitives do
abbrev pub PlainElementsCommute : Type 0
PlainElementsCommute = (p q : Prim) (f' e' : Element) → ElementCommutes (Plain p) (Plain q) f' e' ↔
    ((q' : Prim) × (p' : Prim) × (f' ≡ Plain q') × (e' ≡ Plain p') × Commutes p q q' p')

-- an inverse undoes the effect, and is undone by its own inverse
abbrev pub InversesUndoEffects : Type 0
InversesUndoEffects = (e : Element) → (effect_of (inv_element e) ≡ inv_all (effect_of e)) × (inv_element (inv_element e) ≡ e)

-- the same, of lists
abbrev pub ElementListsCommuteBack : Type 0
ElementListsCommuteBack = (es fs fs' es' : List Element) → ElementListsCommute es fs fs' es' → ElementListsCommute fs' es' es fs

abbrev pub ElementListsCommutePastAnInverse : Type 0
ElementListsCommutePastAnInverse = (es fs fs' es' : List Element) → ElementListsCommute es fs fs' es' → ElementListsCommute (inv_elements es) fs' fs (inv_elements es')

-- two lists that start at one state, turned round
abbrev pub ElementRectanglesTurn : Type 0
ElementRectanglesTurn = (r n n' r' : List Element) → ElementListsCommute (inv_elements r) n n' (inv_elements r') → ElementListsCommute (inv_elements n) r r' (inv_elements n')

abbrev pub OneWayToCommuteElementLists : Type 0
OneWayToCommuteElementLists = (es fs fs1 es1 fs2 es2 : List Element) → ElementListsCommute es fs fs1 es1 → ElementListsCommute es fs fs2 es2 → (fs1 ≡ fs2) × (es1 ≡ es2)

abbrev pub ListInversesUndoEffects : Type 0
ListInversesUndoEffects = (es : List Element) → (effects_of (inv_elements es) ≡ inv_all (effects_of es)) × (inv_elements (inv_elements es) ≡ es)

-- the effects of lists that change places do
abbrev pub EffectsCommute : Type 0
EffectsCommute = (es fs fs' es' : List Element) → ElementListsCommute es fs fs' es' → ListsCommute (effects_of es) (effects_of fs) (effects_of fs') (effects_of es')

-- so both orders have one end on every tree
abbrev pub CommutedElementsEndAlike : Type 0
CommutedElementsEndAlike = (es fs fs' es' : List Element) → ElementListsCommute es fs fs' es' → (s u z : LawfulMap) → LeadsAll (effects_of es) s u → LeadsAll (effects_of fs) u z →
    (m : LawfulMap) × LeadsAll (effects_of fs') s m × LeadsAll (effects_of es') m z

-- an element that is no conflict
abbrev pub IsPlainElement : Element → Type 0
IsPlainElement (Plain p) = Unit {0}
IsPlainElement (Conflicted c) = ⊥

-- patches of primitives alone are settled
abbrev pub PlainPatchesAreSettled : Type 0
PlainPatchesAreSettled = (ps : List Patch) → All (λ p. All IsPlainElement p.elements) ps → AreSettled ps

-- one more patch unsettles none before it: all are settled exactly if the new one is, with nothing after it
abbrev pub SettledPatchesStay : Type 0
SettledPatchesStay = (ps : List Patch) (p : Patch) → AreSettled ps → AreSettled (ps ++ p ∷ []) ↔ IsSettledPatch (length ps) p []

-- at most one place is that of the first that isn't settled, and there is none where all are settled
abbrev pub OneFirstUnsettled : Type 0
OneFirstUnsettled = (ps : List Patch) (m : ℕ) → IsFirstUnsettled ps m → (¬ AreSettled ps) × ((n : ℕ) → IsFirstUnsettled ps n → m ≡ n)

-- lists that merge, merge in either order
abbrev pub MergingTurns : Type 0
MergingTurns = (m k : List Prim) → Merge m k → Merge k m

-- what stands, leads on by its effects
abbrev pub StandingElementsLead : Type 0
StandingElementsLead = (es : List Element) (s t : LawfulMap) → StandAll LeadsWithin es s t → InTurn LeadsWithin (effects_of es) s t

-- primitives alone stand exactly where they, in turn, lead on
abbrev pub PlainElementsStand : Type 0
PlainElementsStand = (es : List Element) (s t : LawfulMap) → All IsPlainElement es → StandAll LeadsWithin es s t ↔ InTurn LeadsWithin (effects_of es) s t

-- of them none falls by a shadow, and one falls only where they, in turn, lead nowhere
abbrev pub PlainElementsFall : Type 0
PlainElementsFall = (es : List Element) (s : LawfulMap) (f : Fallen) → All IsPlainElement es → IsFallen es s f → (f.shadow ≡ None) × (Stands LeadsWithin (effects_of es) s → ⊥)

-- where a list stands, so does each front of it, and the rest from where that leads
abbrev pub FrontsStand : Type 0
FrontsStand = (es fs : List Element) (s t : LawfulMap) → StandAll LeadsWithin (es ++ fs) s t → (u : LawfulMap) × StandAll LeadsWithin es s u × StandAll LeadsWithin fs u t

-- at most one is the first that falls, and none where all stand
abbrev pub OneFallen : Type 0
OneFallen = (es : List Element) (s : LawfulMap) (r q : Option Fallen) → FindsFallen es s r → FindsFallen es s q → r ≡ q

-- what stands past no limit, stands
abbrev pub StandingWithinLimits : Type 0
StandingWithinLimits = (es : List Element) (s t : LawfulMap) → StandAll LeadsWithin es s t → StandAll Leads es s t

-- where lists that stand change places, those that they become stand too, with one end
abbrev pub CommutedElementsStand : Type 0
CommutedElementsStand = (es fs fs' es' : List Element) → ElementListsCommute es fs fs' es' → (s u z : LawfulMap) → StandAll Leads es s u → StandAll Leads fs u z →
    (m : LawfulMap) × StandAll Leads fs' s m × StandAll Leads es' m z

-- what stands from s to t has an inverse that stands from t to s
abbrev pub InversesStand : Type 0
InversesStand = (es : List Element) (s t : LawfulMap) → StandAll Leads es s t → StandAll Leads (inv_elements es) t s

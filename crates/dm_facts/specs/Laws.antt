-- What holds of all trees with identities, and of what primitives do to them.
use Rattle.std.specs.Prelude.{◌≡◌, ◌≤◌, ◌↔◌, ℕ, false, List, [], ◌++◌, length}
use Rattle.std.specs.List.{Contains}
use Rattle.std.specs.List.Sorted.{IsPermutation}
use Rattle.dm_tokens.specs.Validity.{TokenWords, AreOfSet}
use Rattle.dm_prim.specs.Primitives.{Prim, inv, inv_all, Applies, LawfulMap, LeadsAll}
use Rattle.dm_prim.specs.Commuting.{Commutes, ListsCommute}
use Rattle.dm_chain.specs.Chains.{Distinct}
use Rattle.dm_facts.specs.Heaps.{leans, Heap, put_on, IsHeap, exchange, spelled}
use Rattle.dm_facts.specs.Nodes.{NodeMap, plain, IsTree}
use Rattle.dm_facts.specs.Facts.{Fact, Effect, inverse, IsFactOf}
use Rattle.dm_facts.specs.Steps.{Steps}
use Rattle.dm_facts.specs.Sums.{AreFacts}
use Rattle.dm_facts.specs.Runs.{StepsAll, AllAddNew, enough_for_all}
use Rattle.dm_facts.specs.Identities.{UsesOf, IsIn, AddsNew}

-- a step is one of the tree with no identity
abbrev pub StepsApply : Type 0 → Type 0
StepsApply I = (p : Prim) (e : Effect I) (s t : NodeMap I) → Steps p e s t → Applies p (plain s) (plain t)

-- primitives that lead from a tree with its identities left out make steps of that tree, with identities from any list of enough new ones
abbrev pub WhatLeadsSteps : Type 0 → Type 0
WhatLeadsSteps I = (ps : List Prim) (s : NodeMap I) (a b : LawfulMap) (ids : List I) → IsTree s → plain s ≡ a.map → LeadsAll ps a b →
    Distinct ids → enough_for_all ps ≤ length ids → ((x : I) → Contains ids x → IsIn x s → ⊥) →
    (es : List (Effect I)) × (t : NodeMap I) × StepsAll ps es s t × (plain t ≡ b.map) × AllAddNew es s × ((e : Effect I) → Contains es e → UsesOf ids e)

-- a primitive makes t of s exactly where its inverse makes s of t, with the inverse effect
abbrev pub InversesStepBack : Type 0 → Type 0
InversesStepBack I = (p : Prim) (e : Effect I) (s t : NodeMap I) → Steps p e s t ↔ Steps (inv p) (inverse e) t s

-- where p then q commute to q' then p', the same is made in both orders, and each has the same effect in both
abbrev pub EffectsStay : Type 0 → Type 0
EffectsStay I = (p q q' p' : Prim) → Commutes p q q' p' → (e f : Effect I) (s t u : NodeMap I) → Steps p e s t → Steps q f t u →
    (m : NodeMap I) × Steps q' f s m × Steps p' e m u

-- the same of lists: where xs then ys commute to ys' then xs', the same is made in both orders, with the same effects
abbrev pub ListEffectsStay : Type 0 → Type 0
ListEffectsStay I = (xs ys ys' xs' : List Prim) → ListsCommute xs ys ys' xs' → (es fs : List (Effect I)) (s t u : NodeMap I) → StepsAll xs es s t → StepsAll ys fs t u →
    (m : NodeMap I) × StepsAll ys' fs s m × StepsAll xs' es m u

-- two lists that start at one tree: where n is n' after r, and r is r' after n, each has the same effects after the other
abbrev pub MergedEffectsStay : Type 0 → Type 0
MergedEffectsStay I = (r n n' r' : List Prim) → ListsCommute (inv_all r) n n' (inv_all r') → (es fs : List (Effect I)) (s t u : NodeMap I) → StepsAll r es s t → StepsAll n fs s u →
    (m : NodeMap I) × StepsAll n' fs t m × StepsAll r' es u m

-- a step that adds what is new leads from a tree to a tree
abbrev pub StepsKeepTrees : Type 0 → Type 0
StepsKeepTrees I = (p : Prim) (e : Effect I) (s t : NodeMap I) → IsTree s → Steps p e s t → AddsNew e s → IsTree t

-- a step is a sum: all facts of s with those that are added are all facts of t with those that are taken away, each as often
abbrev pub StepsKeepTheSum : Type 0 → Type 0
StepsKeepTheSum I = (p : Prim) (e : Effect I) (s t : NodeMap I) (fs : List (Fact I)) → AreFacts s fs → Steps p e s t →
    (gs : List (Fact I)) × AreFacts t gs × IsPermutation (fs ++ e.added) (gs ++ e.taken)

-- two trees with one root in which the same facts hold are the same
abbrev pub FactsDetermineTheTree : Type 0 → Type 0
FactsDetermineTheTree I = (s t : NodeMap I) → IsTree s → IsTree t → s [] ≡ t [] → ((a : Fact I) → IsFactOf a s ↔ IsFactOf a t) → s ≡ t

-- two runs from one tree with the same effects, in any order, end in one tree, as long as all that they introduce is new
abbrev pub EffectsDetermineTheEnd : Type 0 → Type 0
EffectsDetermineTheEnd I = (ps qs : List Prim) (es ds : List (Effect I)) (s t u : NodeMap I) (fs : List (Fact I)) →
    IsTree s → AreFacts s fs → AllAddNew es s → IsPermutation es ds → StepsAll ps es s t → StepsAll qs ds s u → t ≡ u

-- replaces that don't lean on each other make the same heap in both orders
abbrev pub HeapsForgetOrder : Type 0
HeapsForgetOrder = (v w : TokenWords) (h : Heap) → leans v w ≡ false → IsHeap h → AreOfSet v.set v.old v.new → AreOfSet w.set w.old w.new →
    put_on v (put_on w h) ≡ put_on w (put_on v h)

-- with a replace put on, a heap spells each symbol as before, and then with the two tokens exchanged
abbrev pub HeapsSpellInTurn : Type 0
HeapsSpellInTurn = (w : TokenWords) (h : Heap) (x : List ℕ) → IsHeap h → AreOfSet w.set w.old w.new → spelled (put_on w h) x ≡ exchange w (spelled h x)

-- a heap spells each text of one symbol
abbrev pub TextsHaveOneSymbol : Type 0
TextsHaveOneSymbol = (h : Heap) (y : List ℕ) → IsHeap h → (x : List ℕ) × (spelled h x ≡ y) × ((z : List ℕ) → spelled h z ≡ y → z ≡ x)

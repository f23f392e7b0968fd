-- Which conflicts of a list of patches are settled by what follows them.
use Rattle.std.specs.Prelude.{◌≡◌, ◌⊎◌, ℕ, List, [], ◌∷◌, ◌++◌, length, Any, Contains, Option, Some, None}
use Rattle.dm_element.specs.Elements.{Element, Conflict, Conflicted, ElementListsCommute}

-- a patch of a list: its elements, and the places in the list of the patches that it names
pub record Patch : Type 0 where
  pub elements : List Element
  pub names : List ℕ

-- the elements of all of them, in turn
abbrev pub elements_in : List Patch → List Element
elements_in [] = []
elements_in (p ∷ ps) = p.elements ++ elements_in ps

-- one of these patches names the one at this place
abbrev pub IsNamed : ℕ → List Patch → Type 0
IsNamed place ps = Any (λ p. Contains p.names place) ps

-- e passes all of fs: it then fs change places
pub record PassesAll (e : Element) (fs : List Element) : Type 0 where
  pub passed : List Element
  pub moved : List Element
  pub commute : ElementListsCommute (e ∷ []) fs passed moved

-- a conflict of the patch at this place is settled by the rest of that patch and by the later ones: one of these names the place, or it does not pass all that follow it
abbrev pub IsSettled : ℕ → Conflict → List Element → List Patch → Type 0
IsSettled place c rest later = IsNamed place later ⊎ (PassesAll (Conflicted c) (rest ++ elements_in later) → ⊥)

-- each conflict of the patch p, at this place before these later ones, is settled
abbrev pub IsSettledPatch : ℕ → Patch → List Patch → Type 0
IsSettledPatch place p later = (front rest : List Element) (c : Conflict) → p.elements ≡ front ++ Conflicted c ∷ rest → IsSettled place c rest later

-- one of them isn't: no later patch names the place, and it passes all that follow it
pub record IsUnsettledPatch (place : ℕ) (p : Patch) (later : List Patch) : Type 0 where
  pub front : List Element
  pub conflict : Conflict
  pub rest : List Element
  pub whole : p.elements ≡ front ++ Conflicted conflict ∷ rest
  pub unnamed : IsNamed place later → ⊥
  pub passes : PassesAll (Conflicted conflict) (rest ++ elements_in later)

-- the same, of each patch of a list
abbrev pub AreSettled : List Patch → Type 0
AreSettled ps = (before later : List Patch) (p : Patch) → ps ≡ before ++ p ∷ later → IsSettledPatch (length before) p later

-- at this place stands the first that isn't settled
pub record IsFirstUnsettled (ps : List Patch) (place : ℕ) : Type 0 where
  pub before : List Patch
  pub patch : Patch
  pub later : List Patch
  pub whole : ps ≡ before ++ patch ∷ later
  pub at_place : length before ≡ place
  pub unsettled : IsUnsettledPatch place patch later
  pub settled : (front between : List Patch) (p : Patch) → before ≡ front ++ p ∷ between → IsSettledPatch (length front) p (between ++ patch ∷ later)

-- the place that is returned is that of the first that isn't settled; where none is, all are settled
abbrev pub FindsUnsettled : List Patch → Option ℕ → Type 0
FindsUnsettled ps None = AreSettled ps
FindsUnsettled ps (Some place) = IsFirstUnsettled ps place

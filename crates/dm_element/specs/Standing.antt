-- Whether the shadows of conflicts stand: whether each applies to the tree on its side.
use Rattle.std.specs.Prelude.{◌≡◌, ℕ, List, ◌∷◌, ◌++◌, length, All, Option, Some, None}
use Rattle.dm_prim.specs.InTurn.{InTurn}
use Rattle.dm_prim.specs.Primitives.{Prim, LawfulMap, Leads}
use Rattle.dm_prim.specs.Limits.{IsPastLimits}
use Rattle.dm_element.specs.Elements.{Element, effect_of, shadows_of, side_of, at_side}
use Rattle.dm_element.specs.declared.standing.Fallen.{Fallen}

-- a primitive leads from one lawful map to another, past no limit
pub record LeadsWithin (p : Prim) (s t : LawfulMap) : Type 0 where
  pub leads : Leads p s t
  pub within : IsPastLimits p s.map t.map → ⊥

-- by such steps the primitives of m, in turn, lead from s to some map
abbrev pub Stands : (Prim → LawfulMap → LawfulMap → Type 0) → List Prim → LawfulMap → Type 0
Stands Step m s = (t : LawfulMap) × InTurn Step m s t

-- each shadow of e, with s before e and t after it, stands on the one of these on its side
abbrev pub ShadowsStand : (Prim → LawfulMap → LawfulMap → Type 0) → Element → LawfulMap → LawfulMap → Type 0
ShadowsStand Step e s t = All (λ m. Stands Step m (at_side (side_of e) s t)) (shadows_of e)

-- e leads from s to t by its effect, and its shadows stand
pub record StandsBetween (Step : Prim → LawfulMap → LawfulMap → Type 0) (e : Element) (s t : LawfulMap) : Type 0 where
  pub effect : InTurn Step (effect_of e) s t
  pub shadows : ShadowsStand Step e s t

-- so does each of a list, in turn
abbrev pub StandAll : (Prim → LawfulMap → LawfulMap → Type 0) → List Element → LawfulMap → LawfulMap → Type 0
StandAll Step es s t = InTurn (StandsBetween Step) es s t

-- at this place is the first of some lists that doesn't stand on s
pub record IsFirstFallen (ms : List (List Prim)) (s : LawfulMap) (place : ℕ) : Type 0 where
  pub before : List (List Prim)
  pub shadow : List Prim
  pub after : List (List Prim)
  pub whole : ms ≡ before ++ shadow ∷ after
  pub at_place : length before ≡ place
  pub stand : All (λ m. Stands LeadsWithin m s) before
  pub falls : Stands LeadsWithin shadow s → ⊥

-- e falls on s: its effect leads nowhere, or it leads on and the shadow at this place is the first that doesn't stand
abbrev pub Falls : Element → LawfulMap → Option ℕ → Type 0
Falls e s None = Stands LeadsWithin (effect_of e) s → ⊥
Falls e s (Some place) = (t : LawfulMap) × InTurn LeadsWithin (effect_of e) s t × IsFirstFallen (shadows_of e) (at_side (side_of e) s t) place

-- the elements before this one stand, in turn from s on, and it falls on what they lead to
pub record IsFallen (es : List Element) (s : LawfulMap) (f : Fallen) : Type 0 where
  pub before : List Element
  pub element : Element
  pub after : List Element
  pub whole : es ≡ before ++ element ∷ after
  pub at_place : length before ≡ f.element
  pub reached : LawfulMap
  pub stand : StandAll LeadsWithin before s reached
  pub falls : Falls element reached f.shadow

-- what is returned falls; where nothing is, all stand
abbrev pub FindsFallen : List Element → LawfulMap → Option Fallen → Type 0
FindsFallen es s None = (t : LawfulMap) × StandAll LeadsWithin es s t
FindsFallen es s (Some f) = IsFallen es s f

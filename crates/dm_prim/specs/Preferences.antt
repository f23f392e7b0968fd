-- A change of a preference as contracts see it.
use Rattle.std.specs.Prelude.{◌≡◌, ℕ, List, Result, Ok, Err}
use Rattle.dm_prim.specs.Primitives.{Prim, ChangePref}
use Rattle.dm_prim.specs.Commuting.{IsPreference}

-- the name of a preference, and its value before and after
pub record PreferenceParts : Type 0 where
  pub name : List ℕ
  pub old : List ℕ
  pub new : List ℕ

-- the primitive that a change of a preference is
abbrev pub preference_of : PreferenceParts → Prim
preference_of c = ChangePref c.name c.old c.new

-- a change of a preference is what it was made of, and valid; it is refused only where its name is no word, or a value no line
abbrev pub MakesPreference : {E : Type 0} → PreferenceParts → Result PreferenceParts E → Type 0
MakesPreference c (Ok r) = (r ≡ c) × IsPreference c.name c.old c.new
MakesPreference c (Err e) = IsPreference c.name c.old c.new → ⊥

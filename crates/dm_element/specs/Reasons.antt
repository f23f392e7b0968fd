-- Why a conflict is one.
use Rattle.std.specs.Prelude.{◌⊎◌, List, Any}
use Rattle.dm_prim.specs.Primitives.{Prim}
use Rattle.dm_element.specs.Elements.{Merge}

-- what a conflict undoes, or the first shadow of one of its partners, does not merge with the shadow of its own form
abbrev pub HasReason : List Prim → List (List Prim) → List Prim → Type 0
HasReason undone partners own = (Merge undone own → ⊥) ⊎ Any (λ m. Merge m own → ⊥) partners

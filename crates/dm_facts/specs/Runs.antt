-- Primitives in turn, each with its effect.
use Rattle.std.specs.Prelude.{◌≡◌, ℕ, ◌+◌, List, [], ◌∷◌}
use Rattle.std.specs.List.{Contains}
use Rattle.dm_prim.specs.Primitives.{Prim}
use Rattle.dm_facts.specs.Nodes.{NodeMap}
use Rattle.dm_facts.specs.Facts.{Effect}
use Rattle.dm_facts.specs.Steps.{Steps}
use Rattle.dm_facts.specs.Identities.{Introduces, AddsNew, enough}

-- the primitives make t of s, each with the effect at its place in the second list
abbrev pub StepsAll : {I : Type 0} → List Prim → List (Effect I) → NodeMap I → NodeMap I → Type 0
StepsAll [] [] s t = s ≡ t
StepsAll [] (e ∷ es) s t = ⊥
StepsAll (p ∷ ps) [] s t = ⊥
StepsAll {I} (p ∷ ps) (e ∷ es) s t = (u : NodeMap I) × Steps p e s u × StepsAll ps es u t

-- e introduces nothing that one of es does
abbrev pub SharesNone : {I : Type 0} → Effect I → List (Effect I) → Type 0
SharesNone {I} e es = (d : Effect I) → Contains es d → (x : I) → Introduces e x → Introduces d x → ⊥

-- all of es add what is new to s, and no two of them introduce the same
abbrev pub AllAddNew : {I : Type 0} → List (Effect I) → NodeMap I → Type 0
AllAddNew [] s = Unit {0}
AllAddNew (e ∷ es) s = AddsNew e s × SharesNone e es × AllAddNew es s

-- how many new identities are enough for primitives in turn
abbrev pub enough_for_all : List Prim → ℕ
enough_for_all [] = 0
enough_for_all (p ∷ ps) = enough p + enough_for_all ps

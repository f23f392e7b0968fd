-- Which element of a patch a conflictor is.
use Rattle.std.specs.Prelude.{◌≡◌, List, [], ◌∷◌, ◌++◌, length, map, Vec, Option, Some, None}
use Rattle.dm_prim.specs.Primitives.{Prim, inv_all}
use Rattle.dm_element.specs.Elements.{Conflict}
use Rattle.dm_element.specs.declared.side.Side.TheVariants.{After}
use Rattle.dm_named.specs.Conflictors.{Original, Conflictor}

-- the shadow of an original: its context, and then its primitive
abbrev pub shadow_of : Original → List Prim
shadow_of o = o.context ++ o.prim ∷ []

-- the conflict that a conflictor is: it undoes what the conflictor undoes, and the shadows of the partners and then of its own original
-- stand at the tree after it
abbrev pub conflict_of : Conflictor → Conflict
conflict_of c = record { side = After; effect = inv_all c.undone; shadows = map shadow_of c.partners ++ shadow_of c.own ∷ [] }

-- the original that is returned has this shadow; where none is, the shadow is empty
abbrev pub IsOriginalOf : List Prim → Option Original → Type 0
IsOriginalOf shadow None = shadow ≡ []
IsOriginalOf shadow (Some o) = shadow_of o ≡ shadow

-- the originals that are returned have these shadows, one for one and in order; where none are, no originals have them
abbrev pub AreOriginalsOf : {Y : Type 0} → List (List Prim) → Option (Vec Original Y) → Type 0
AreOriginalsOf shadows None = (os : List Original) → map shadow_of os ≡ shadows → ⊥
AreOriginalsOf shadows (Some os) = map shadow_of os.items ≡ shadows

-- the conflictor that is returned is this conflict; where none is, no conflictor is
abbrev pub IsConflictorOf : Conflict → Option Conflictor → Type 0
IsConflictorOf k None = (c : Conflictor) → conflict_of c ≡ k → ⊥
IsConflictorOf k (Some c) = conflict_of c ≡ k

-- a conflict whose shadows stand after it, with as many primitives in each as a conflictor's have, is a conflictor
abbrev pub ConflictorsKeepTheirShape : Type 0
ConflictorsKeepTheirShape = (c : Conflictor) (k : Conflict) → k.side ≡ After → map length k.shadows ≡ map length (conflict_of c).shadows → (d : Conflictor) × (conflict_of d ≡ k)

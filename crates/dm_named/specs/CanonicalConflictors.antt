-- Canonical texts of conflictors.
use Rattle.std.specs.Prelude.{ℕ, List, [], ◌∷◌, ◌++◌, codes}
use Rattle.std.specs.List.{flat_map}
use Rattle.dm_prim.specs.Primitives.{Prim}
use Rattle.dm_named.specs.Canonical.{prim_text}
use Rattle.dm_named.specs.Conflictors.{Original, Conflictor}

-- an original: its context, a line with a colon, and its primitive
abbrev pub original_text : Original → List ℕ
original_text o = flat_map prim_text o.context ++ (codes ":\n" ++ prim_text o.prim)

-- the partners in double braces, if there are any
abbrev pub partners_text : List Original → List ℕ
partners_text [] = []
partners_text (o ∷ os) = codes "{{\n" ++ (flat_map original_text (o ∷ os) ++ codes "}} ")

-- what it undoes in brackets; where that is nothing, both stand on one line
abbrev pub undone_text : List Prim → List ℕ
undone_text [] = codes "[]\n"
undone_text (p ∷ ps) = codes "[\n" ++ (flat_map prim_text (p ∷ ps) ++ codes "]\n")

-- a conflictor
abbrev pub conflictor_text : Conflictor → List ℕ
conflictor_text c = codes "conflictor " ++ (partners_text c.partners ++ (undone_text c.undone ++ original_text c.own))

-- Canonical texts of named patches in whose bodies conflictors may stand.
use Rattle.std.specs.Prelude.{ℕ, List, [], ◌∷◌, ◌++◌, codes}
use Rattle.std.specs.List.{flat_map}
use Rattle.dm_info.specs.Spelling.{canonical}
use Rattle.dm_named.specs.Canonical.{prim_text, deps_text}
use Rattle.dm_named.specs.CanonicalConflictors.{conflictor_text}
use Rattle.dm_named.specs.MergedPatches.{Item, Plain, Conflicted, MergedPatch}

-- an item: a primitive, or a conflictor
abbrev pub item_text : Item → List ℕ
item_text (Plain p) = prim_text p
item_text (Conflicted c) = conflictor_text c

-- one item alone, or none or several in braces
abbrev pub items_text : List Item → List ℕ
items_text (i ∷ []) = item_text i
items_text is = codes "{\n" ++ (flat_map item_text is ++ codes "}\n")

-- a named patch
abbrev pub merged_text : MergedPatch → List ℕ
merged_text p = canonical p.info ++ (deps_text p.deps ++ items_text p.body)

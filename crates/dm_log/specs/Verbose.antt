-- What a patch does, as a log shows it.
use Rattle.std.specs.Prelude.{ℕ, ◌-◌, ◌==◌, List, [], ◌∷◌, ◌++◌, codes, length, take}
use Rattle.std.specs.List.{flat_map, slice_split}
use Rattle.dm_info.specs.Spelling.{canonical}
use Rattle.dm_prim.specs.Primitives.{Prim, At, Binary}
use Rattle.dm_named.specs.Canonical.{deps_text, path_text, prim_text}
use Rattle.dm_named.specs.Patches.{Patch}
use Rattle.dm_log.specs.Entries.{labelled}
use Rattle.dm_log.specs.Shown.{shown}

-- a primitive: its canonical text, but of a binary its path alone
abbrev pub prim_shown : Prim → List ℕ
prim_shown (At p (Binary old new)) = codes "binary " ++ (path_text p ++ 10 ∷ [])
prim_shown p = prim_text p

-- one primitive alone, or none or several in braces
abbrev pub body_shown : List Prim → List ℕ
body_shown (p ∷ []) = prim_shown p
body_shown ps = codes "{\n" ++ (flat_map prim_shown ps ++ codes "}\n")

-- a named patch
abbrev pub patch_shown : Patch → List ℕ
patch_shown p = canonical p.info ++ (deps_text p.deps ++ body_shown p.prims)

-- a line behind four spaces, as it is shown
abbrev pub detail : List ℕ → List ℕ
detail line = labelled (codes "    ") (shown line)

-- each line of a text, whose last byte is a newline
abbrev pub details : List ℕ → List ℕ
details text = flat_map detail (slice_split (λ b. b == 10) (take (length text - 1) text))

-- Named patches as darcs keeps them in a repository. It keeps them in two ways, by the repository's format; the hash of a bundle is
-- that of its new patches, kept in one of them.
use Rattle.std.specs.Prelude.{ℕ, List, [], ◌∷◌, ◌++◌, codes}
use Rattle.std.specs.List.{flat_map}
use Rattle.dm_info.specs.PatchInfo.{PatchInfo}
use Rattle.dm_info.specs.Spelling.{canonical}
use Rattle.dm_prim.specs.Primitives.{Prim}
use Rattle.dm_named.specs.Patches.{Patch}
use Rattle.dm_named.specs.Canonical.{info_line, prim_text, body_text}

-- the dependencies, if there are any: in angle brackets, after a newline
abbrev pub kept_deps : List PatchInfo → List ℕ
kept_deps [] = []
kept_deps (d ∷ ds) = codes "\n<\n" ++ (flat_map info_line (d ∷ ds) ++ codes ">")

-- the patch info and the dependencies
abbrev pub kept_front : Patch → List ℕ
kept_front p = canonical p.info ++ kept_deps p.deps

-- the space between dependencies and primitives
abbrev pub gap : List PatchInfo → List ℕ
gap [] = []
gap (d ∷ ds) = codes " "

-- the body as darcs-1 keeps it: one primitive alone, or none or several in braces
abbrev pub darcs1_body : List PatchInfo → List Prim → List ℕ
darcs1_body deps prims = gap deps ++ body_text prims

-- the body as darcs-2 keeps it: the primitives without braces, or a newline where there are none
abbrev pub darcs2_body : List PatchInfo → List Prim → List ℕ
darcs2_body deps [] = codes "\n"
darcs2_body deps (p ∷ ps) = gap deps ++ flat_map prim_text (p ∷ ps)

-- a patch with its body kept so
abbrev pub kept_patch : (List PatchInfo → List Prim → List ℕ) → Patch → List ℕ
kept_patch body p = kept_front p ++ body p.deps p.prims

-- patches kept so, one directly after the other
abbrev pub in_turn : (List PatchInfo → List Prim → List ℕ) → List Patch → List ℕ
in_turn body patches = flat_map (kept_patch body) patches

-- the text that is hashed: the patches in turn, or a newline where there is none
abbrev pub kept_text : (List PatchInfo → List Prim → List ℕ) → List Patch → List ℕ
kept_text body [] = codes "\n"
kept_text body (p ∷ ps) = in_turn body (p ∷ ps)

-- as a darcs-1 repository keeps them
abbrev pub darcs1_text : List Patch → List ℕ
darcs1_text patches = kept_text darcs1_body patches

-- as a darcs-2 repository keeps them
abbrev pub darcs2_text : List Patch → List ℕ
darcs2_text patches = kept_text darcs2_body patches

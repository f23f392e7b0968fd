-- Canonical texts.
use Rattle.std.specs.Prelude.{◌||◌, ◌==◌, ℕ, List, [], ◌∷◌, ◌++◌, codes, if◌then◌else◌}
use Rattle.std.specs.List.{flat_map}
use Rattle.std.specs.Fmt.{decimal}
use Rattle.dm_info.specs.PatchInfo.{PatchInfo}
use Rattle.dm_info.specs.Spelling.{canonical}
use Rattle.dm_hex.specs.Digits.{stars_text}
use Rattle.dm_tree.specs.Paths.{Name, Path}
use Rattle.dm_prim.specs.Primitives.{Work, Prim, AddFile, RmFile, AddDir, RmDir, Hunk, Binary, Replace, At, Move, ChangePref}
use Rattle.dm_named.specs.Words.{is_white}
use Rattle.dm_named.specs.Replaces.{bracketed}
use Rattle.dm_named.specs.Patches.{Patch}

-- a byte of a name; white space and the backslash are escaped
abbrev pub byte_text : ℕ → List ℕ
byte_text b = if is_white b || b == 92 then 92 ∷ (decimal b ++ 92 ∷ []) else b ∷ []

-- a name after its slash
abbrev pub name_text : Name → List ℕ
name_text n = 47 ∷ flat_map byte_text n

-- a dot, and the names
abbrev pub path_text : Path → List ℕ
path_text p = 46 ∷ flat_map name_text p

-- lines, each with this byte before it and a newline after it
abbrev pub lines_text : ℕ → List (List ℕ) → List ℕ
lines_text b lines = flat_map (λ l. b ∷ (l ++ 10 ∷ [])) lines

-- a primitive's word and the space after it
abbrev pub work_word : Work → List ℕ
work_word AddFile = codes "addfile "
work_word RmFile = codes "rmfile "
work_word AddDir = codes "adddir "
work_word RmDir = codes "rmdir "
work_word (Hunk n old new) = codes "hunk "
work_word (Binary old new) = codes "binary "
work_word (Replace set old new) = codes "replace "

-- what follows the path: for a hunk its number and its lines, without lines for people; for a binary its contents in hex; for a
-- replace its set in brackets and its tokens; for the others a newline
abbrev pub work_text : Work → List ℕ
work_text (Hunk n old new) = 32 ∷ (decimal n ++ 10 ∷ (lines_text 45 old ++ lines_text 43 new))
work_text (Binary old new) = 10 ∷ (codes "oldhex\n" ++ (stars_text old ++ (codes "newhex\n" ++ stars_text new)))
work_text (Replace set old new) = 32 ∷ (bracketed set ++ 32 ∷ (old ++ 32 ∷ (new ++ 10 ∷ [])))
work_text w = 10 ∷ []

-- a primitive: one space between its words, and a newline; a change of a preference has both values on lines of their own
abbrev pub prim_text : Prim → List ℕ
prim_text (At p w) = work_word w ++ (path_text p ++ work_text w)
prim_text (Move p q) = codes "move " ++ (path_text p ++ 32 ∷ (path_text q ++ 10 ∷ []))
prim_text (ChangePref name old new) = codes "changepref " ++ (name ++ 10 ∷ (old ++ 10 ∷ (new ++ 10 ∷ [])))

-- a patch info (its text ends with a space) and a newline
abbrev pub info_line : PatchInfo → List ℕ
info_line i = canonical i ++ 10 ∷ []

-- the dependencies, if there are any
abbrev pub deps_text : List PatchInfo → List ℕ
deps_text [] = []
deps_text (d ∷ ds) = codes "<\n" ++ (flat_map info_line (d ∷ ds) ++ codes "> ")

-- one primitive alone, or none or several in braces
abbrev pub body_text : List Prim → List ℕ
body_text (p ∷ []) = prim_text p
body_text ps = codes "{\n" ++ (flat_map prim_text ps ++ codes "}\n")

-- a named patch
abbrev pub patch_text : Patch → List ℕ
patch_text p = canonical p.info ++ (deps_text p.deps ++ body_text p.prims)

-- Primitive patches and named patches as text (Darcs.Patch.Prim.V1, Darcs.Patch.Named).
use Rattle.std.specs.Prelude.{◌≡◌, ◌≢◌, ◌⊎◌, ℕ, List, [], ◌∷◌, ◌++◌, codes}
use Rattle.std.specs.List.{AllByRecursion}
use Rattle.dm_info.specs.PatchInfo.{PatchInfo, IsInfo}
use Rattle.dm_info.specs.Spelling.{Stands}
use Rattle.dm_tree.specs.Paths.{Path}
use Rattle.dm_prim.specs.Primitives.{Prim, AddFile, RmFile, AddDir, RmDir, Hunk, Binary, Replace, At, Move, ChangePref}
use Rattle.dm_prim.specs.Commuting.{IsValidPrim}
use Rattle.dm_named.specs.Kinds.{IsOf}
use Rattle.dm_named.specs.Many.{Many}
use Rattle.dm_named.specs.Words.{skipped, Begins, NextByte, WordAmong, LineGroup, NumberLine}
use Rattle.dm_named.specs.Paths.{NextPath, WordAndPath}
use Rattle.dm_named.specs.Binaries.{BinaryText}
use Rattle.dm_named.specs.Replaces.{ReplaceText}
use Rattle.dm_named.specs.Preferences.{PreferenceText}
use Rattle.dm_named.specs.declared.limits.Kinds.{Kinds}
use Rattle.dm_named.specs.declared.limits.Kinds.TheVariants as these

-- a named patch: its patch info, the patch infos of the patches that it names as dependencies, and its primitives
pub record Patch : Type 0 where
  pub info : PatchInfo
  pub deps : List PatchInfo
  pub prims : List Prim

-- its parts are valid
pub record IsValidPatch (p : Patch) : Type 0 where
  pub info : IsInfo p.info
  pub deps : AllByRecursion IsInfo p.deps
  pub prims : AllByRecursion IsValidPrim p.prims

-- this word, and two paths
pub record WordAndPaths (word text : List ℕ) (p q : Path) (rest : List ℕ) : Type 0 where
  pub mid : List ℕ
  pub first : WordAndPath word text p mid
  pub second : NextPath mid q rest

-- the lines of a hunk: some for people, the old, the new, some for people
pub record HunkLines (text : List ℕ) (old new : List (List ℕ)) (rest : List ℕ) : Type 0 where
  pub above : List (List ℕ)
  pub olds : List ℕ
  pub news : List ℕ
  pub last : List ℕ
  pub below : List (List ℕ)
  pub above_read : LineGroup 32 text above olds
  pub old_read : LineGroup 45 olds old news
  pub new_read : LineGroup 43 news new last
  pub below_read : LineGroup 32 last below rest
  pub some : (old ≢ []) ⊎ (new ≢ [])

-- what follows a hunk's path: the number of its line, and its lines
pub record HunkBody (text : List ℕ) (n : ℕ) (old new : List (List ℕ)) (rest : List ℕ) : Type 0 where
  pub lines : List ℕ
  pub number_read : NumberLine (skipped text) n lines
  pub lines_read : HunkLines lines old new rest

-- a hunk
pub record HunkText (text : List ℕ) (p : Path) (n : ℕ) (old new : List (List ℕ)) (rest : List ℕ) : Type 0 where
  pub mid : List ℕ
  pub first : WordAndPath (codes "hunk") text p mid
  pub body : HunkBody mid n old new rest

-- a primitive
abbrev pub PrimText : List ℕ → Prim → List ℕ → Type 0
PrimText text (At p AddFile) rest = WordAndPath (codes "addfile") text p rest
PrimText text (At p RmFile) rest = WordAndPath (codes "rmfile") text p rest
PrimText text (At p AddDir) rest = WordAndPath (codes "adddir") text p rest
PrimText text (At p RmDir) rest = WordAndPath (codes "rmdir") text p rest
PrimText text (At p (Hunk n old new)) rest = HunkText text p n old new rest
PrimText text (At p (Binary old new)) rest = BinaryText text p old new rest
PrimText text (At p (Replace set old new)) rest = ReplaceText text p (record { set = set; old = old; new = new }) rest
PrimText text (Move p q) rest = WordAndPaths (codes "move") text p q rest
PrimText text (ChangePref name old new) rest = PreferenceText text name old new rest

-- the words of the six kinds of primitives
abbrev pub prim_words : List (List ℕ)
prim_words = codes "addfile" ∷ codes "rmfile" ∷ codes "adddir" ∷ codes "rmdir" ∷ codes "move" ∷ codes "hunk" ∷ []

-- the words of the further kinds
abbrev pub wider_words : List (List ℕ)
wider_words = codes "binary" ∷ codes "replace" ∷ codes "changepref" ∷ []

-- the words of primitives of these kinds
abbrev pub prim_words_of : Kinds → List (List ℕ)
prim_words_of these.Six = prim_words
prim_words_of these.All = prim_words ++ wider_words

-- the words of Darcs' other patches, which are refused whichever kinds of primitives are read
abbrev pub refused_words : List (List ℕ)
refused_words =
    codes "merger" ∷ codes "regrem" ∷ codes "conflictor" ∷ codes "rotcilfnoc" ∷ codes "duplicate" ∷ codes "etacilpud" ∷ []

-- the words that are refused where primitives of the six kinds are read
abbrev pub unsupported_words : List (List ℕ)
unsupported_words = wider_words ++ refused_words

-- the words that are refused where primitives of these kinds are read
abbrev pub unsupported_words_of : Kinds → List (List ℕ)
unsupported_words_of these.Six = unsupported_words
unsupported_words_of these.All = refused_words

-- a primitive of these kinds after white space
pub record NextPrim (kinds : Kinds) (text : List ℕ) (p : Prim) (rest : List ℕ) : Type 0 where
  pub read : PrimText (skipped text) p rest
  pub kind : IsOf kinds p

-- a patch info after white space
abbrev pub NextInfo : List ℕ → PatchInfo → List ℕ → Type 0
NextInfo text i rest = Stands (skipped text) i rest

-- patch infos in angle brackets
pub record InAngles (text : List ℕ) (deps : List PatchInfo) (rest : List ℕ) : Type 0 where
  pub inside : List ℕ
  pub mid : List ℕ
  pub opens : NextByte 60 text inside
  pub read : Many NextInfo inside deps mid
  pub closes : NextByte 62 mid rest

-- the dependencies in angle brackets, or none
abbrev pub Dependencies : List ℕ → List PatchInfo → List ℕ → Type 0
Dependencies text deps rest = InAngles text deps rest ⊎ ((Begins 60 (skipped text) → ⊥) × (deps ≡ []) × (text ≡ rest))

-- primitives of these kinds in braces
pub record InBraces (kinds : Kinds) (text : List ℕ) (ps : List Prim) (rest : List ℕ) : Type 0 where
  pub inside : List ℕ
  pub mid : List ℕ
  pub opens : NextByte 123 text inside
  pub read : Many (NextPrim kinds) inside ps mid
  pub closes : NextByte 125 mid rest

-- a run of primitives ends here: there is neither the word of a primitive nor what is refused instead; for all kinds these are the
-- same words
pub record RunEnds (here : List ℕ) : Type 0 where
  pub prims : WordAmong prim_words here → ⊥
  pub others : WordAmong unsupported_words here → ⊥
  pub paren : Begins 40 here → ⊥

-- primitives of these kinds without braces, as many as follow one another
pub record Run (kinds : Kinds) (text : List ℕ) (ps : List Prim) (rest : List ℕ) : Type 0 where
  pub bare : Begins 123 (skipped text) → ⊥
  pub read : Many (NextPrim kinds) text ps rest
  pub ends : RunEnds (skipped rest)

-- the body of a named patch
abbrev pub Body : Kinds → List ℕ → List Prim → List ℕ → Type 0
Body kinds text ps rest = InBraces kinds text ps rest ⊎ Run kinds text ps rest

-- a named patch whose primitives are of these kinds
pub record PatchTextIn (kinds : Kinds) (text : List ℕ) (p : Patch) (rest : List ℕ) : Type 0 where
  pub after : List ℕ
  pub body : List ℕ
  pub info : Stands text p.info after
  pub deps : Dependencies after p.deps body
  pub prims : Body kinds body p.prims rest

-- a named patch whose primitives are of the six kinds
abbrev pub PatchText : List ℕ → Patch → List ℕ → Type 0
PatchText text p rest = PatchTextIn these.Six text p rest

-- Named patches as text in whose bodies conflictors may stand beside primitives (Darcs.Patch.Named over Darcs.Patch.V2.RepoPatch).
use Rattle.std.specs.Prelude.{◌⊎◌, ◌+◌, ℕ, List, [], ◌∷◌, map}
use Rattle.std.specs.List.{AllByRecursion}
use Rattle.dm_info.specs.PatchInfo.{PatchInfo, IsInfo}
use Rattle.dm_info.specs.Spelling.{Stands}
use Rattle.dm_prim.specs.Primitives.{Prim}
use Rattle.dm_prim.specs.Commuting.{IsValidPrim}
use Rattle.dm_named.specs.Kinds.{IsOf, HasBytes, IsWritable}
use Rattle.dm_named.specs.Many.{Many}
use Rattle.dm_named.specs.Words.{skipped, Begins, NextByte}
use Rattle.dm_named.specs.Patches.{PrimText, Dependencies, RunEnds, Patch}
use Rattle.dm_named.specs.Conflictors.{Conflictor, ConflictorText, conflictor_size, EachOfConflictor}
use Rattle.dm_named.specs.declared.limits.Kinds.{Kinds}

-- an item of a patch's body: a primitive, or a conflict that was merged
pub data Item : Type 0 where
  Plain : Prim → Item
  Conflicted : Conflictor → Item

-- a named patch as merges leave it: its patch info, the patch infos of the patches that it names as dependencies, and its items
pub record MergedPatch : Type 0 where
  pub info : PatchInfo
  pub deps : List PatchInfo
  pub body : List Item

-- a named patch that no merge has changed
abbrev pub as_merged : Patch → MergedPatch
as_merged p = record { info = p.info; deps = p.deps; body = map Plain p.prims }

-- ---- text

-- an item: a primitive of these kinds, or a conflictor of such primitives
abbrev pub ItemText : Kinds → List ℕ → Item → List ℕ → Type 0
ItemText kinds text (Plain p) rest = PrimText text p rest × IsOf kinds p
ItemText kinds text (Conflicted c) rest = ConflictorText kinds text c rest

-- an item after white space
abbrev pub NextItem : Kinds → List ℕ → Item → List ℕ → Type 0
NextItem kinds text i rest = ItemText kinds (skipped text) i rest

-- items in braces
pub record ItemsInBraces (kinds : Kinds) (text : List ℕ) (is : List Item) (rest : List ℕ) : Type 0 where
  pub inside : List ℕ
  pub mid : List ℕ
  pub opens : NextByte 123 text inside
  pub read : Many (NextItem kinds) inside is mid
  pub closes : NextByte 125 mid rest

-- items without braces, as many as follow one another: a run of primitives doesn't end before the word `conflictor` either
pub record RunOfItems (kinds : Kinds) (text : List ℕ) (is : List Item) (rest : List ℕ) : Type 0 where
  pub bare : Begins 123 (skipped text) → ⊥
  pub read : Many (NextItem kinds) text is rest
  pub ends : RunEnds (skipped rest)

-- the body of such a patch
abbrev pub BodyOfItems : Kinds → List ℕ → List Item → List ℕ → Type 0
BodyOfItems kinds text is rest = ItemsInBraces kinds text is rest ⊎ RunOfItems kinds text is rest

-- a named patch of items whose primitives are of these kinds
pub record MergedText (kinds : Kinds) (text : List ℕ) (p : MergedPatch) (rest : List ℕ) : Type 0 where
  pub after : List ℕ
  pub start : List ℕ
  pub info : Stands text p.info after
  pub deps : Dependencies after p.deps start
  pub body : BodyOfItems kinds start p.body rest

-- ---- what it has

-- the primitives of an item: those of a conflictor count
abbrev pub item_size : Item → ℕ
item_size (Plain p) = 1
item_size (Conflicted c) = conflictor_size c

-- the primitives of items
abbrev pub body_size : List Item → ℕ
body_size [] = 0
body_size (i ∷ is) = item_size i + body_size is

-- ---- what holds of each primitive in it

-- of those of an item
abbrev pub EachOfItem : (Prim → Type 0) → Item → Type 0
EachOfItem P (Plain p) = P p
EachOfItem P (Conflicted c) = EachOfConflictor P c

-- of those of items
abbrev pub EachOfItems : (Prim → Type 0) → List Item → Type 0
EachOfItems P is = AllByRecursion (EachOfItem P) is

-- its parts are valid
pub record IsValidMerged (p : MergedPatch) : Type 0 where
  pub info : IsInfo p.info
  pub deps : AllByRecursion IsInfo p.deps
  pub body : EachOfItems IsValidPrim p.body

-- its primitives have bytes only
abbrev pub HasMergedBytes : MergedPatch → Type 0
HasMergedBytes p = EachOfItems HasBytes p.body

-- they are of these kinds and can be written
abbrev pub IsWritableMerged : Kinds → MergedPatch → Type 0
IsWritableMerged kinds p = EachOfItems (IsWritable kinds) p.body

-- Conflictors as text (Darcs.Patch.V2.RepoPatch, Darcs.Patch.V2.Non): a conflict that was merged, with primitives alone in its contexts.
use Rattle.std.specs.Prelude.{◌≡◌, ◌⊎◌, ◌+◌, ℕ, List, [], ◌∷◌, length, codes}
use Rattle.std.specs.List.{AllByRecursion}
use Rattle.dm_prim.specs.Primitives.{Prim}
use Rattle.dm_prim.specs.Commuting.{IsValidPrim}
use Rattle.dm_named.specs.Kinds.{HasBytes, IsWritable}
use Rattle.dm_named.specs.Many.{Many}
use Rattle.dm_named.specs.Words.{skipped, NextByte, Word}
use Rattle.dm_named.specs.Patches.{NextPrim}
use Rattle.dm_named.specs.declared.limits.Kinds.{Kinds}

-- a primitive as its author made it, and its context: what must be done first for it to stand
pub record Original : Type 0 where
  pub context : List Prim
  pub prim : Prim

-- a conflictor: the originals of its partners, which something before it has undone already; the primitives that it alone undoes; and
-- its own original
pub record Conflictor : Type 0 where
  pub partners : List Original
  pub undone : List Prim
  pub own : Original

-- ---- text

-- an original: its context, a colon, and its primitive
pub record OriginalText (kinds : Kinds) (text : List ℕ) (o : Original) (rest : List ℕ) : Type 0 where
  pub mid : List ℕ
  pub last : List ℕ
  pub context : Many (NextPrim kinds) text o.context mid
  pub colon : NextByte 58 mid last
  pub prim : NextPrim kinds last o.prim rest

-- the text begins with this byte twice
abbrev pub BeginsTwice : ℕ → List ℕ → Type 0
BeginsTwice b text = (rest : List ℕ) × (text ≡ b ∷ b ∷ rest)

-- this byte twice after white space
abbrev pub NextTwice : ℕ → List ℕ → List ℕ → Type 0
NextTwice b text rest = skipped text ≡ b ∷ b ∷ rest

-- originals in double braces
pub record InDoubleBraces (kinds : Kinds) (text : List ℕ) (os : List Original) (rest : List ℕ) : Type 0 where
  pub inside : List ℕ
  pub mid : List ℕ
  pub opens : NextTwice 123 text inside
  pub read : Many (OriginalText kinds) inside os mid
  pub closes : NextTwice 125 mid rest

-- the partners in double braces, or none
abbrev pub Partners : Kinds → List ℕ → List Original → List ℕ → Type 0
Partners kinds text os rest = InDoubleBraces kinds text os rest ⊎ ((BeginsTwice 123 (skipped text) → ⊥) × (os ≡ []) × (text ≡ rest))

-- primitives in brackets
pub record InBrackets (kinds : Kinds) (text : List ℕ) (ps : List Prim) (rest : List ℕ) : Type 0 where
  pub inside : List ℕ
  pub mid : List ℕ
  pub opens : NextByte 91 text inside
  pub read : Many (NextPrim kinds) inside ps mid
  pub closes : NextByte 93 mid rest

-- a conflictor: its word, its partners, what it undoes in brackets, and its own original
pub record ConflictorText (kinds : Kinds) (text : List ℕ) (c : Conflictor) (rest : List ℕ) : Type 0 where
  pub after : List ℕ
  pub list : List ℕ
  pub last : List ℕ
  pub named : Word text (codes "conflictor") after
  pub partners : Partners kinds after c.partners list
  pub undone : InBrackets kinds list c.undone last
  pub own : OriginalText kinds last c.own rest

-- ---- what it has

-- the primitives of an original
abbrev pub size_of : Original → ℕ
size_of o = length o.context + 1

-- the primitives of originals
abbrev pub sizes_of : List Original → ℕ
sizes_of [] = 0
sizes_of (o ∷ os) = size_of o + sizes_of os

-- the primitives of a conflictor
abbrev pub conflictor_size : Conflictor → ℕ
conflictor_size c = sizes_of c.partners + (length c.undone + size_of c.own)

-- ---- what holds of each primitive in it

-- of those of an original
pub record EachOfOriginal (P : Prim → Type 0) (o : Original) : Type 0 where
  pub context : AllByRecursion P o.context
  pub prim : P o.prim

-- of those of a conflictor
pub record EachOfConflictor (P : Prim → Type 0) (c : Conflictor) : Type 0 where
  pub partners : AllByRecursion (EachOfOriginal P) c.partners
  pub undone : AllByRecursion P c.undone
  pub own : EachOfOriginal P c.own

-- its primitives are valid
abbrev pub IsValidConflictor : Conflictor → Type 0
IsValidConflictor c = EachOfConflictor IsValidPrim c

-- they have bytes only
abbrev pub HasConflictorBytes : Conflictor → Type 0
HasConflictorBytes c = EachOfConflictor HasBytes c

-- they are of these kinds and can be written
abbrev pub IsWritableConflictor : Kinds → Conflictor → Type 0
IsWritableConflictor kinds c = EachOfConflictor (IsWritable kinds) c

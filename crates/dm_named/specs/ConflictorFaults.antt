-- What can be wrong with a conflictor's text, and where: as in Faults, `here` is the text from the fault's place on.
use Rattle.std.specs.Prelude.{◌≡◌, ◌≢◌, ◌≤◌, ◌<◌, ◌⊎◌, ◌-◌, ℕ, List, [], length, codes}
use Rattle.dm_prim.specs.Primitives.{Prim}
use Rattle.dm_named.specs.Many.{Many}
use Rattle.dm_named.specs.Words.{skipped, Begins, NextByte, Word, WordAmong}
use Rattle.dm_named.specs.Patches.{NextPrim, prim_words_of, unsupported_words_of}
use Rattle.dm_named.specs.Faults.{PrimFaultOf, CountFaultWithin, PrimsFaultWithin}
use Rattle.dm_named.specs.Conflictors.{Original, OriginalText, BeginsTwice, NextTwice, Partners, InBrackets, sizes_of}
use Rattle.dm_named.specs.declared.limits.Limits.{Limits}
use Rattle.dm_named.specs.declared.limits.Kinds.{Kinds}
use Rattle.dm_named.specs.declared.fault.FaultKind.{FaultKind}
use Rattle.dm_named.specs.declared.fault.FaultKind.TheVariants.{BadPatch, Unsupported, Unclosed}

-- these limits after so many primitives
abbrev pub less : Limits → ℕ → Limits
less limits count = record limits { prims = limits.prims - count }

-- what stands in the place of what is due: nothing, what is refused, or something else
abbrev pub OtherFaultAt : Kinds → FaultKind → List ℕ → List ℕ → Type 0
OtherFaultAt kinds Unclosed text here = (here ≡ text) × (text ≡ [])
OtherFaultAt kinds Unsupported text here = (here ≡ text) × (WordAmong (unsupported_words_of kinds) text ⊎ Begins 40 text)
OtherFaultAt kinds BadPatch text here = (here ≡ text) × (text ≢ []) × (WordAmong (unsupported_words_of kinds) text → ⊥) × (Begins 40 text → ⊥)
OtherFaultAt kinds _ text here = ⊥

-- this is due after white space, and does not stand there
pub record Missing (kinds : Kinds) (kind : FaultKind) (IsDue : List ℕ → Type 0) (text here : List ℕ) : Type 0 where
  pub none : IsDue (skipped text) → ⊥
  pub wrong : OtherFaultAt kinds kind (skipped text) here

-- a primitive, or this byte
abbrev pub PrimOr : Kinds → ℕ → List ℕ → Type 0
PrimOr kinds b text = WordAmong (prim_words_of kinds) text ⊎ Begins b text

-- an original begins with a primitive or with its colon
abbrev pub BeginsOriginal : Kinds → List ℕ → Type 0
BeginsOriginal kinds text = PrimOr kinds 58 text

-- one primitive after so many is due: it does not stand there, it is one too many, or there is a fault in it
abbrev pub OneFaultOf : Limits → FaultKind → ℕ → List ℕ → List ℕ → Type 0
OneFaultOf limits kind count text here =
    Missing limits.kinds kind (WordAmong (prim_words_of limits.kinds)) text here
    ⊎ (CountFaultWithin limits kind count (skipped text) here ⊎ ((count < limits.prims) × PrimFaultOf limits.kinds kind (skipped text) here))

-- primitives of these kinds and no more than the limits allow, and then something is wrong
pub record PrimsThen (limits : Limits) (Wrong : ℕ → List ℕ → Type 0) (text : List ℕ) : Type 0 where
  pub prims : List Prim
  pub mid : List ℕ
  pub read : Many (NextPrim limits.kinds) text prims mid
  pub few : length prims ≤ limits.prims
  pub wrong : Wrong (length prims) mid

-- after this byte something is wrong
pub record After (b : ℕ) (Wrong : List ℕ → Type 0) (text : List ℕ) : Type 0 where
  pub inside : List ℕ
  pub byte : NextByte b text inside
  pub wrong : Wrong inside

-- an original: a fault in its context, no colon after it, or a fault in the primitive after the colon
pub data OriginalFault (limits : Limits) (kind : FaultKind) (text here : List ℕ) : Type 0 where
  context : PrimsFaultWithin limits kind text here → OriginalFault limits kind text here
  colon : PrimsThen limits (λ _ mid. Missing limits.kinds kind (PrimOr limits.kinds 58) mid here) text → OriginalFault limits kind text here
  prim : PrimsThen limits (λ count mid. After 58 (λ last. OneFaultOf limits kind count last here) mid) text → OriginalFault limits kind text here

-- originals, of no more primitives than the limits allow, and then something is wrong
pub record OriginalsThen (limits : Limits) (Wrong : ℕ → List ℕ → Type 0) (text : List ℕ) : Type 0 where
  pub originals : List Original
  pub mid : List ℕ
  pub read : Many (OriginalText limits.kinds) text originals mid
  pub few : sizes_of originals ≤ limits.prims
  pub wrong : Wrong (sizes_of originals) mid

-- after originals, one more begins, and there is a fault in it
abbrev pub OriginalsFault : Limits → FaultKind → List ℕ → List ℕ → Type 0
OriginalsFault limits kind text here =
    OriginalsThen limits (λ count mid. BeginsOriginal limits.kinds (skipped mid) × OriginalFault (less limits count) kind mid here) text

-- the partners: a fault in one of them, or the double braces are not closed
pub record PartnersFault (limits : Limits) (kind : FaultKind) (text here : List ℕ) : Type 0 where
  pub inside : List ℕ
  pub opens : NextTwice 123 text inside
  pub wrong : OriginalsFault limits kind inside here
      ⊎ OriginalsThen limits (λ _ mid. Missing limits.kinds kind (λ t. BeginsOriginal limits.kinds t ⊎ BeginsTwice 125 t) mid here) inside

-- the primitives in brackets: no bracket stands there, there is a fault in one of them, or the brackets are not closed
pub data BracketsFault (limits : Limits) (kind : FaultKind) (text here : List ℕ) : Type 0 where
  opens : Missing limits.kinds kind (Begins 91) text here → BracketsFault limits kind text here
  prims : After 91 (λ inside. PrimsFaultWithin limits kind inside here) text → BracketsFault limits kind text here
  closes : After 91 (PrimsThen limits (λ _ mid. Missing limits.kinds kind (PrimOr limits.kinds 93) mid here)) text → BracketsFault limits kind text here

-- a conflictor: another word stands there, or there is a fault in its partners, in what it undoes, or in its own original
pub data ConflictorFault (limits : Limits) (kind : FaultKind) (text here : List ℕ) : Type 0 where
  word : kind ≡ BadPatch → here ≡ text → ((after : List ℕ) → Word text (codes "conflictor") after → ⊥) → ConflictorFault limits kind text here
  partners : (after : List ℕ) → Word text (codes "conflictor") after → PartnersFault limits kind after here → ConflictorFault limits kind text here
  undone : (os : List Original) (after list : List ℕ) → Word text (codes "conflictor") after → Partners limits.kinds after os list → sizes_of os ≤ limits.prims
      → BracketsFault (less limits (sizes_of os)) kind list here → ConflictorFault limits kind text here
  own : (os : List Original) (ps : List Prim) (after list last : List ℕ) → Word text (codes "conflictor") after → Partners limits.kinds after os list
      → InBrackets limits.kinds list ps last → sizes_of os ≤ limits.prims → length ps ≤ limits.prims - sizes_of os
      → OriginalFault (less (less limits (sizes_of os)) (length ps)) kind last here → ConflictorFault limits kind text here

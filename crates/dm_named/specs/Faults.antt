-- What can be wrong with a named patch's text, and where. `F kind text here` says: the part that is due at the front of the text
-- fails in this way, and `here` is the text from the fault's place on. The text before the place is that of the parts that are due
-- there. Memory may run out anywhere.
use Rattle.std.specs.Prelude.{◌≡◌, ◌≢◌, ◌≤◌, ◌<◌, ◌⊎◌, ℕ, List, [], ◌∷◌, ◌++◌, length, codes}
use Rattle.dm_info.specs.PatchInfo.{PatchInfo}
use Rattle.dm_info.specs.Spelling.{open_bracket, Stands, NoneStands, StandsInverted}
use Rattle.dm_tree.specs.Paths.{Path}
use Rattle.dm_tree.specs.Trees.{Lines}
use Rattle.dm_tokens.specs.Validity.{TokenWords}
use Rattle.dm_prim.specs.Primitives.{Prim}
use Rattle.dm_named.specs.Many.{Many}
use Rattle.dm_named.specs.Limits.{standard}
use Rattle.dm_named.specs.Words.{skipped, Begins, NextByte, Word, WordAmong, LineGroup, NumberLine}
use Rattle.dm_named.specs.Paths.{PathWord, WordAndPath}
use Rattle.dm_named.specs.Binaries.{WordAndStars}
use Rattle.dm_named.specs.Replaces.{TokensText}
use Rattle.dm_named.specs.Preferences.{PreferenceLines}
use Rattle.dm_named.specs.Patches.{NextPrim, NextInfo, Dependencies, prim_words, prim_words_of, unsupported_words_of, RunEnds}
use Rattle.dm_info.specs.declared.fault.InfoReadFault.{InfoReadFault}
use Rattle.dm_info.specs.declared.fault.InfoReadFault.TheVariants as in_info
use Rattle.dm_named.specs.declared.limits.Limits.{Limits}
use Rattle.dm_named.specs.declared.limits.Kinds.{Kinds}
use Rattle.dm_named.specs.declared.reading.names.NameFault.{NameFault}
use Rattle.dm_named.specs.declared.reading.names.NameFault.TheVariants as in_name
use Rattle.dm_named.specs.declared.fault.FaultKind.{FaultKind}
use Rattle.dm_named.specs.declared.fault.FaultKind.TheVariants.{BadInfo, Inverted, BadDepends, BadPatch, Unsupported, BadPath}
use Rattle.dm_named.specs.declared.fault.FaultKind.TheVariants.{BadNumber, EmptyHunk, Unclosed, TooMany, NoMemory, BadHex, BadTokens, BadPreference}

-- the kind of a fault in a patch info
abbrev pub kind_of_info : InfoReadFault → FaultKind
kind_of_info in_info.BadInfo = BadInfo
kind_of_info in_info.Inverted = Inverted
kind_of_info in_info.NoMemory = NoMemory

-- the kind of a fault in a path's names
abbrev pub kind_of_name : NameFault → FaultKind
kind_of_name in_name.BadPath = BadPath
kind_of_name in_name.NoMemory = NoMemory

-- where a patch info is due
abbrev pub InfoFaultAt : FaultKind → List ℕ → List ℕ → Type 0
InfoFaultAt BadInfo text here = (here ≡ text) × NoneStands text
InfoFaultAt Inverted text here = (here ≡ text) × StandsInverted text
InfoFaultAt NoMemory text here = Unit {0}
InfoFaultAt _ text here = ⊥

-- where a path is due
abbrev pub PathFaultAt : FaultKind → List ℕ → List ℕ → Type 0
PathFaultAt BadPath text here = (here ≡ skipped text) × ((p : Path) (rest : List ℕ) → PathWord here p rest → ⊥)
PathFaultAt NoMemory text here = Unit {0}
PathFaultAt _ text here = ⊥

-- after a hunk's path: a number, and neither old nor new lines
pub record NoChange (text : List ℕ) : Type 0 where
  pub number : ℕ
  pub lines : List ℕ
  pub above : List (List ℕ)
  pub olds : List ℕ
  pub number_read : NumberLine (skipped text) number lines
  pub above_read : LineGroup 32 lines above olds
  pub no_old : Begins 45 olds → ⊥
  pub no_new : Begins 43 olds → ⊥

-- after a hunk's word and its path
abbrev pub HunkFaultAt : FaultKind → List ℕ → List ℕ → List ℕ → Type 0
HunkFaultAt BadNumber hunk text here = (here ≡ skipped text) × ((n : ℕ) (rest : List ℕ) → NumberLine here n rest → ⊥)
HunkFaultAt EmptyHunk hunk text here = (here ≡ hunk) × NoChange text
HunkFaultAt NoMemory hunk text here = Unit {0}
HunkFaultAt _ hunk text here = ⊥

-- this word is due after white space, with lines in hex after it, and they don't stand there
pub record NoStars (word text here : List ℕ) : Type 0 where
  pub place : here ≡ skipped text
  pub none : (lines : Lines) (rest : List ℕ) → WordAndStars word here lines rest → ⊥

-- after a binary's path: the old lines don't stand there, or they do and the new ones don't
pub data HexFaultAt (text here : List ℕ) : Type 0 where
  old_hex : NoStars (codes "oldhex") text here → HexFaultAt text here
  new_hex : (lines : Lines) (mid : List ℕ) → WordAndStars (codes "oldhex") (skipped text) lines mid → NoStars (codes "newhex") mid here → HexFaultAt text here

-- after a binary's path
abbrev pub BinaryFaultAt : FaultKind → List ℕ → List ℕ → Type 0
BinaryFaultAt BadHex text here = HexFaultAt text here
BinaryFaultAt NoMemory text here = Unit {0}
BinaryFaultAt _ text here = ⊥

-- after a replace's path: no set in brackets with two tokens of it stands there
abbrev pub ReplaceFaultAt : FaultKind → List ℕ → List ℕ → Type 0
ReplaceFaultAt BadTokens text here = (here ≡ skipped text) × ((words : TokenWords) (rest : List ℕ) → TokensText here words rest → ⊥)
ReplaceFaultAt NoMemory text here = Unit {0}
ReplaceFaultAt _ text here = ⊥

-- after the word of a change of a preference
abbrev pub PreferenceFaultAt : FaultKind → List ℕ → List ℕ → Type 0
PreferenceFaultAt BadPreference text here = (here ≡ skipped text) × ((name old new rest : List ℕ) → PreferenceLines here name old new rest → ⊥)
PreferenceFaultAt NoMemory text here = Unit {0}
PreferenceFaultAt _ text here = ⊥

-- the words of primitives that have a path
abbrev pub path_words : List (List ℕ)
path_words = prim_words ++ codes "binary" ∷ codes "replace" ∷ []

-- where a primitive's word stands: a fault in its path, in a move's second path, after the path of a hunk, a binary or a replace, or
-- after the word of a change of a preference
pub data PrimFaultAt (kind : FaultKind) (text here : List ℕ) : Type 0 where
  path : (stands : WordAmong path_words text) → PathFaultAt kind stands.rest here → PrimFaultAt kind text here
  second : (p : Path) (mid : List ℕ) → WordAndPath (codes "move") text p mid → PathFaultAt kind mid here → PrimFaultAt kind text here
  hunk : (p : Path) (mid : List ℕ) → WordAndPath (codes "hunk") text p mid → HunkFaultAt kind text mid here → PrimFaultAt kind text here
  binary : (p : Path) (mid : List ℕ) → WordAndPath (codes "binary") text p mid → BinaryFaultAt kind mid here → PrimFaultAt kind text here
  replace : (p : Path) (mid : List ℕ) → WordAndPath (codes "replace") text p mid → ReplaceFaultAt kind mid here → PrimFaultAt kind text here
  preference : (mid : List ℕ) → Word text (codes "changepref") mid → PreferenceFaultAt kind mid here → PrimFaultAt kind text here

-- the same where the word of a primitive of these kinds stands
pub record PrimFaultOf (kinds : Kinds) (kind : FaultKind) (text here : List ℕ) : Type 0 where
  pub due : WordAmong (prim_words_of kinds) text
  pub wrong : PrimFaultAt kind text here

-- after so many primitives, the next one is one more than the limits allow
abbrev pub CountFaultWithin : Limits → FaultKind → ℕ → List ℕ → List ℕ → Type 0
CountFaultWithin limits TooMany count text here = (here ≡ text) × (count ≡ limits.prims) × WordAmong (prim_words_of limits.kinds) text
CountFaultWithin limits NoMemory count text here = Unit {0}
CountFaultWithin limits _ count text here = ⊥

-- after the primitives of these kinds in braces
abbrev pub BraceFaultAt : Kinds → FaultKind → List ℕ → List ℕ → Type 0
BraceFaultAt kinds Unclosed text here = (here ≡ text) × (text ≡ [])
BraceFaultAt kinds Unsupported text here = (here ≡ text) × (WordAmong (unsupported_words_of kinds) text ⊎ (Begins 123 text ⊎ Begins 40 text))
BraceFaultAt kinds BadPatch text here = (here ≡ text) × (text ≢ []) × (Begins 125 text → ⊥) × (Begins 123 text → ⊥) × RunEnds text
BraceFaultAt kinds _ text here = ⊥

-- after the primitives of these kinds of a run
abbrev pub RunFaultAt : Kinds → FaultKind → List ℕ → List ℕ → Type 0
RunFaultAt kinds Unsupported text here = (here ≡ text) × (WordAmong (unsupported_words_of kinds) text ⊎ Begins 40 text)
RunFaultAt kinds _ text here = ⊥

-- after the dependencies in angle brackets
abbrev pub DependsFaultAt : FaultKind → List ℕ → List ℕ → Type 0
DependsFaultAt BadDepends text here = (here ≡ text) × (Begins open_bracket text → ⊥) × (Begins 62 text → ⊥)
DependsFaultAt _ text here = ⊥

-- after primitives, of the kinds that the limits allow and no more, something is wrong
pub record AfterPrimsWithin (limits : Limits) (Wrong : ℕ → List ℕ → List ℕ → Type 0) (text here : List ℕ) : Type 0 where
  pub prims : List Prim
  pub mid : List ℕ
  pub read : Many (NextPrim limits.kinds) text prims mid
  pub few : length prims ≤ limits.prims
  pub wrong : Wrong (length prims) (skipped mid) here

-- one of the primitives: it is one too many, or there is a fault in it
abbrev pub PrimsFaultWithin : Limits → FaultKind → List ℕ → List ℕ → Type 0
PrimsFaultWithin limits kind text here =
    AfterPrimsWithin limits (λ count next place. CountFaultWithin limits kind count next place ⊎ ((count < limits.prims) × PrimFaultOf limits.kinds kind next place)) text here

-- the body: a fault in one of its primitives, or in what follows them
pub data BodyFaultWithin (limits : Limits) (kind : FaultKind) (text here : List ℕ) : Type 0 where
  in_braces : (inside : List ℕ) → NextByte 123 text inside → PrimsFaultWithin limits kind inside here ⊎ AfterPrimsWithin limits (λ _. BraceFaultAt limits.kinds kind) inside here
      → BodyFaultWithin limits kind text here
  in_run : (Begins 123 (skipped text) → ⊥) → PrimsFaultWithin limits kind text here ⊎ AfterPrimsWithin limits (λ _. RunFaultAt limits.kinds kind) text here
      → BodyFaultWithin limits kind text here

-- after patch infos, there is a fault in the next one
pub record InfosFaultAt (kind : FaultKind) (text here : List ℕ) : Type 0 where
  pub infos : List PatchInfo
  pub mid : List ℕ
  pub read : Many NextInfo text infos mid
  pub opens : Begins open_bracket (skipped mid)
  pub wrong : InfoFaultAt kind (skipped mid) here

-- after patch infos, the angle bracket isn't closed
pub record OpenFaultAt (kind : FaultKind) (text here : List ℕ) : Type 0 where
  pub infos : List PatchInfo
  pub mid : List ℕ
  pub read : Many NextInfo text infos mid
  pub wrong : DependsFaultAt kind (skipped mid) here

-- the dependencies: a fault in one of them, or in what follows them
pub record DepsFaultAt (kind : FaultKind) (text here : List ℕ) : Type 0 where
  pub inside : List ℕ
  pub opens : NextByte 60 text inside
  pub wrong : InfosFaultAt kind inside here ⊎ OpenFaultAt kind inside here

-- a named patch, read within these limits: a fault in its patch info, its dependencies or its body
pub data PatchFaultWithin (limits : Limits) (kind : FaultKind) (text here : List ℕ) : Type 0 where
  info : InfoFaultAt kind text here → PatchFaultWithin limits kind text here
  deps : (i : PatchInfo) (after : List ℕ) → Stands text i after → DepsFaultAt kind after here → PatchFaultWithin limits kind text here
  body : (i : PatchInfo) (ds : List PatchInfo) (after body : List ℕ) → Stands text i after → Dependencies after ds body
      → BodyFaultWithin limits kind body here → PatchFaultWithin limits kind text here

-- a named patch, read within the standard limits
abbrev pub PatchFaultAt : FaultKind → List ℕ → List ℕ → Type 0
PatchFaultAt kind text here = PatchFaultWithin standard kind text here

-- a fault of this kind says that no named patch stands there: out of memory and too many primitives don't
pub record ExcludesPatch (kind : FaultKind) : Type 0 where
  pub memory : kind ≢ NoMemory
  pub count : kind ≢ TooMany

-- What can be wrong with a bundle's text, and where. The text before the place is as it must be, and the part that is due there is
-- missing.
use Rattle.std.specs.Prelude.{◌≡◌, ◌≢◌, ◌≤◌, ◌<◌, ℕ, List, [], ◌∷◌, ◌++◌, length, drop, Contains}
use Rattle.dm_info.specs.PatchInfo.{PatchInfo}
use Rattle.dm_info.specs.Spelling.{Stands, open_bracket}
use Rattle.dm_named.specs.Limits.{standard}
use Rattle.dm_named.specs.Many.{Many}
use Rattle.dm_named.specs.Words.{skipped, Begins, Word}
use Rattle.dm_named.specs.Patches.{Patch, PatchTextIn, NextInfo}
use Rattle.dm_named.specs.Faults.{InfoFaultAt, PatchFaultWithin}
use Rattle.dm_named.specs.declared.fault.FaultKind.{FaultKind}
use Rattle.dm_named.specs.declared.fault.FaultKind.TheVariants.{TooLarge, NoNewPatches, NoContext, Doubled, TooMany, NoMemory}
use Rattle.dm_named.specs.declared.limits.Limits.{Limits}
use Rattle.dm_bundle.specs.Heading.{Heading}
use Rattle.dm_bundle.specs.Patches.{infos_of, NewPatches, HasFewReplaces, AreFewWithin}
use Rattle.dm_bundle.specs.Context.{context_word, ContextWord, AreDisjoint}

-- the text is not too large for these limits
abbrev pub IsWithinSizeOf : Limits → List ℕ → Type 0
IsWithinSizeOf limits text = length text ≤ limits.bytes

-- a bundle's text has at most so many bytes by the standard limits
abbrev pub most_bytes : ℕ
most_bytes = standard.bytes

-- the text is not too large for the standard limits
abbrev pub IsWithinSize : List ℕ → Type 0
IsWithinSize text = length text ≤ most_bytes

-- no line is the heading
abbrev pub HasNoHeading : List ℕ → Type 0
HasNoHeading text = (rest : List ℕ) → Heading text rest → ⊥

-- the patch info that stands here is one of those known
pub record IsDoubled (known : List PatchInfo) (here : List ℕ) : Type 0 where
  pub info : PatchInfo
  pub rest : List ℕ
  pub stands : Stands here info rest
  pub is_known : Contains known info

-- after these patches stands one that ends here; it has no more primitives than the limits allow, but with it there are more replaces than
-- they allow
pub record HasTooManyReplaces (limits : Limits) (patches : List Patch) (text here : List ℕ) : Type 0 where
  pub patch : Patch
  pub stands : PatchTextIn limits.kinds text patch here
  pub short : length patch.prims ≤ limits.prims
  pub many : HasFewReplaces limits (patches ++ patch ∷ []) → ⊥

-- where a named patch or the word `Context:` is due, after these patches: something else; one patch too many; a doubled patch; a fault
-- in the patch itself; or, told where it ends, a patch in which nothing is wrong, but with which there are too many replaces
pub data DueFaultWithin (limits : Limits) (kind : FaultKind) (patches : List Patch) (text here : List ℕ) : Type 0 where
  no_context : kind ≡ NoContext → here ≡ text → (Begins open_bracket text → ⊥) → ((rest : List ℕ) → Word text context_word rest → ⊥)
      → DueFaultWithin limits kind patches text here
  too_many : kind ≡ TooMany → here ≡ text → Begins open_bracket text → length patches ≡ limits.patches → DueFaultWithin limits kind patches text here
  doubled : kind ≡ Doubled → here ≡ text → length patches < limits.patches → IsDoubled (infos_of patches) text → DueFaultWithin limits kind patches text here
  in_patch : Begins open_bracket text → length patches < limits.patches → (IsDoubled (infos_of patches) text → ⊥) → PatchFaultWithin limits kind text here
      → DueFaultWithin limits kind patches text here
  too_many_replaces : kind ≡ TooMany → length patches < limits.patches → (IsDoubled (infos_of patches) text → ⊥) → HasTooManyReplaces limits patches text here
      → DueFaultWithin limits kind patches text here
  no_memory : kind ≡ NoMemory → DueFaultWithin limits kind patches text here

-- after new patches, of the kinds that the limits allow and no more, there is a fault in the next one, or in what is there instead
pub record NewPatchesFaultWithin (limits : Limits) (kind : FaultKind) (text here : List ℕ) : Type 0 where
  pub patches : List Patch
  pub mid : List ℕ
  pub read : NewPatches limits.kinds text patches mid
  pub few : AreFewWithin limits patches
  pub wrong : DueFaultWithin limits kind patches (skipped mid) here

-- where a patch info of the context begins: it is that of a new patch, or no patch info
pub data ContextInfoFaultAt (kind : FaultKind) (known : List PatchInfo) (text here : List ℕ) : Type 0 where
  doubled : kind ≡ Doubled → here ≡ text → IsDoubled known text → ContextInfoFaultAt kind known text here
  in_info : Begins open_bracket text → InfoFaultAt kind text here → ContextInfoFaultAt kind known text here

-- after patch infos of the context, none of a new patch, there is a fault in the next one
pub record ContextFaultAt (kind : FaultKind) (new : List PatchInfo) (text here : List ℕ) : Type 0 where
  pub infos : List PatchInfo
  pub mid : List ℕ
  pub read : Many NextInfo text infos mid
  pub apart : AreDisjoint new infos
  pub wrong : ContextInfoFaultAt kind new (skipped mid) here

-- a fault after the heading: among the new patches, or after them and the word `Context:`
pub data AfterHeadingFaultWithin (limits : Limits) (kind : FaultKind) (text here : List ℕ) : Type 0 where
  in_new : NewPatchesFaultWithin limits kind text here → AfterHeadingFaultWithin limits kind text here
  in_context : (patches : List Patch) (between after_word : List ℕ) → NewPatches limits.kinds text patches between → AreFewWithin limits patches
      → ContextWord between after_word → ContextFaultAt kind (infos_of patches) after_word here → AfterHeadingFaultWithin limits kind text here

-- the fault of a text read within these limits, and its place: too many bytes, else no heading, else a fault after the heading; that
-- memory runs out is none
pub data FaultWithin (limits : Limits) (text : List ℕ) (kind : FaultKind) (at : ℕ) : Type 0 where
  too_large : kind ≡ TooLarge → at ≡ limits.bytes → limits.bytes < length text → FaultWithin limits text kind at
  no_new_patches : kind ≡ NoNewPatches → at ≡ length text → IsWithinSizeOf limits text → HasNoHeading text → FaultWithin limits text kind at
  after_heading : kind ≢ NoMemory → at ≤ length text → IsWithinSizeOf limits text → (new : List ℕ) → Heading text new
      → AfterHeadingFaultWithin limits kind new (drop at text) → FaultWithin limits text kind at

-- the fault of a text read within the standard limits, and its place
abbrev pub FaultAt : List ℕ → FaultKind → ℕ → Type 0
FaultAt text kind at = FaultWithin standard text kind at

-- a fault of this kind says that the text stands for no bundle: faults of the limits and of memory don't
pub record ExcludesBundle (kind : FaultKind) : Type 0 where
  pub size : kind ≢ TooLarge
  pub count : kind ≢ TooMany
  pub memory : kind ≢ NoMemory

-- Laws of the text of named patches in whose bodies conflictors may stand.
use Rattle.std.specs.Prelude.{◌≡◌, ◌≢◌, ◌<◌, ◌↔◌, ℕ, List, ◌++◌, length}
use Rattle.dm_named.specs.Words.{skipped}
use Rattle.dm_named.specs.Laws.{NoLineOf}
use Rattle.dm_named.specs.Patches.{Patch, PatchTextIn, RunEnds}
use Rattle.dm_named.specs.Canonical.{patch_text}
use Rattle.dm_named.specs.MergedPatches.{MergedPatch, MergedText, as_merged, body_size, IsValidMerged, IsWritableMerged}
use Rattle.dm_named.specs.CanonicalMerged.{merged_text}
use Rattle.dm_named.specs.MergedFaults.{MergedFault}
use Rattle.dm_named.specs.declared.fault.FaultKind.{FaultKind}
use Rattle.dm_named.specs.declared.fault.FaultKind.TheVariants.{NoMemory, TooMany}
use Rattle.dm_named.specs.declared.limits.Limits.{Limits}
use Rattle.dm_named.specs.declared.limits.Kinds.{Kinds}

-- the patch stands at the front, its primitives of these kinds, and what is left after it is this, apart from white space before it
pub record ReadsMerged (kinds : Kinds) (text : List ℕ) (p : MergedPatch) (rest : List ℕ) : Type 0 where
  pub after : List ℕ
  pub read : MergedText kinds text p after
  pub left : skipped after ≡ skipped rest

-- where all items are primitives, the text is that of a named patch, and the other way round
abbrev pub PlainTextsStay : Kinds → Type 0
PlainTextsStay kinds = (text : List ℕ) (p : Patch) (rest : List ℕ) → MergedText kinds text (as_merged p) rest ↔ PatchTextIn kinds text p rest

-- so is the canonical text, and as many primitives count
abbrev pub PlainCanonicalTextsStay : Type 0
PlainCanonicalTextsStay = (p : Patch) → (merged_text (as_merged p) ≡ patch_text p) × (body_size (as_merged p).body ≡ length p.prims)

-- at most one named patch of items stands at the front of a text
abbrev pub OneMerged : Kinds → Type 0
OneMerged kinds = (text : List ℕ) (p q : MergedPatch) (r s : List ℕ) → MergedText kinds text p r → MergedText kinds text q s → (p ≡ q) × (r ≡ s)

-- within these limits, a text with a fault but out of memory has no named patch of items at its front, or one with too many
-- primitives, and the fault says so
abbrev pub FaultExcludesMerged : Limits → Type 0
FaultExcludesMerged limits = (kind : FaultKind) (text here : List ℕ) → kind ≢ NoMemory → MergedFault limits kind text here →
    (p : MergedPatch) (r : List ℕ) → MergedText limits.kinds text p r → (kind ≡ TooMany) × (limits.prims < body_size p.body)

-- the canonical text of a valid named patch of items of these kinds is read back as that patch, before anything that continues
-- neither its last primitive nor its run of items
abbrev pub MergedRoundTrip : Kinds → Type 0
MergedRoundTrip kinds = (p : MergedPatch) (rest : List ℕ) → IsValidMerged p → IsWritableMerged kinds p → NoLineOf kinds rest → RunEnds (skipped rest) → ReadsMerged kinds (merged_text p ++ rest) p rest

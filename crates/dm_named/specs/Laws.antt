-- Laws of the text of paths, primitives and named patches, and of patches that start at one state.
use Rattle.std.specs.Prelude.{◌≡◌, ◌≢◌, ◌≤◌, ◌⊎◌, ◌↔◌, ℕ, List, ◌++◌, length}
use Rattle.dm_tree.specs.Paths.{Path}
use Rattle.dm_tree.specs.Validity.{IsValidPath}
use Rattle.dm_prim.specs.Primitives.{Prim, inv_all}
use Rattle.dm_prim.specs.Commuting.{IsValidPrim, ListsCommute}
use Rattle.dm_named.specs.Limits.{standard}
use Rattle.dm_named.specs.Kinds.{AreOf, IsWritable, AreWritable}
use Rattle.dm_named.specs.Words.{skipped, Begins, EndsWord, WordAmong}
use Rattle.dm_named.specs.Paths.{PathWord}
use Rattle.dm_named.specs.Patches.{PrimText, Patch, PatchText, PatchTextIn, IsValidPatch, RunEnds, wider_words}
use Rattle.dm_named.specs.Canonical.{path_text, prim_text, patch_text}
use Rattle.dm_named.specs.Faults.{PatchFaultWithin, ExcludesPatch}
use Rattle.dm_named.specs.declared.fault.FaultKind.{FaultKind}
use Rattle.dm_named.specs.declared.fault.FaultKind.TheVariants.{NoMemory, Unsupported}
use Rattle.dm_named.specs.declared.limits.Limits.{Limits}
use Rattle.dm_named.specs.declared.limits.Kinds.{Kinds}
use Rattle.dm_named.specs.declared.limits.Kinds.TheVariants as these

-- no further line of a hunk begins here
pub record NoLine (rest : List ℕ) : Type 0 where
  pub space : Begins 32 rest → ⊥
  pub old : Begins 45 rest → ⊥
  pub new : Begins 43 rest → ⊥

-- no further line of a primitive of these kinds begins here
abbrev pub NoLineOf : Kinds → List ℕ → Type 0
NoLineOf these.Six rest = NoLine rest
NoLineOf these.All rest = NoLine rest × (Begins 42 rest → ⊥)

-- the primitive stands at the front, and what is left after it is this, apart from white space before it
pub record ReadsPrim (text : List ℕ) (p : Prim) (rest : List ℕ) : Type 0 where
  pub after : List ℕ
  pub read : PrimText text p after
  pub left : skipped after ≡ skipped rest

-- the named patch stands at the front, its primitives of these kinds, and what is left after it is this, apart from white space
-- before it
pub record ReadsPatchIn (kinds : Kinds) (text : List ℕ) (p : Patch) (rest : List ℕ) : Type 0 where
  pub after : List ℕ
  pub read : PatchTextIn kinds text p after
  pub left : skipped after ≡ skipped rest

-- at most one named patch of primitives of these kinds stands at the front of a text
abbrev pub OnePatchIn : Kinds → Type 0
OnePatchIn kinds = (text : List ℕ) (p q : Patch) (r s : List ℕ) → PatchTextIn kinds text p r → PatchTextIn kinds text q s → (p ≡ q) × (r ≡ s)

-- the same of the six kinds
abbrev pub OnePatch : Type 0
OnePatch = (text : List ℕ) (p q : Patch) (r s : List ℕ) → PatchText text p r → PatchText text q s → (p ≡ q) × (r ≡ s)

-- a text stands for a patch of primitives of these kinds exactly if it stands for it within all kinds, and its primitives are of these
abbrev pub KindsChooseOnly : Type 0
KindsChooseOnly = (kinds : Kinds) (text : List ℕ) (p : Patch) (r : List ℕ) → PatchTextIn kinds text p r ↔ (PatchTextIn these.All text p r × AreOf kinds p.prims)

-- within these limits, a text with a fault that says so has no named patch at its front
abbrev pub FaultExcludesPatchWithin : Limits → Type 0
FaultExcludesPatchWithin limits = (kind : FaultKind) (text here : List ℕ) → ExcludesPatch kind →
    PatchFaultWithin limits kind text here → (p : Patch) (r : List ℕ) → PatchTextIn limits.kinds text p r → ⊥

-- the same within the standard limits
abbrev pub FaultExcludesPatch : Type 0
FaultExcludesPatch = FaultExcludesPatchWithin standard

-- within these limits, a text has at most one fault of a named patch, at one place, apart from out of memory
abbrev pub OneFaultWithin : Limits → Type 0
OneFaultWithin limits = (kind other : FaultKind) (text here there : List ℕ) → kind ≢ NoMemory → other ≢ NoMemory →
    PatchFaultWithin limits kind text here → PatchFaultWithin limits other text there → (kind ≡ other) × (here ≡ there)

-- the same within the standard limits
abbrev pub OneFault : Type 0
OneFault = OneFaultWithin standard

-- these limits, but with the kinds that are given
abbrev pub with_kinds : Limits → Kinds → Limits
with_kinds limits kinds = record limits { kinds = kinds }

-- a fault within the six kinds is the one within all kinds, or it says that a word of the further kinds is unsupported, and stands no
-- later
abbrev pub FaultOfSix : Limits → Type 0
FaultOfSix limits = (kind other : FaultKind) (text here there : List ℕ) → kind ≢ NoMemory → other ≢ NoMemory →
    PatchFaultWithin (with_kinds limits these.Six) kind text here → PatchFaultWithin (with_kinds limits these.All) other text there →
    ((kind ≡ other) × (here ≡ there)) ⊎ ((kind ≡ Unsupported) × WordAmong wider_words here × (length there ≤ length here))

-- a text with a named patch at its front, of no more primitives than these limits allow, has no fault but out of memory
abbrev pub NoFaultWithinCountOf : Limits → Type 0
NoFaultWithinCountOf limits = (kind : FaultKind) (text here : List ℕ) → PatchFaultWithin limits kind text here →
    (p : Patch) (r : List ℕ) → PatchTextIn limits.kinds text p r → length p.prims ≤ limits.prims → kind ≡ NoMemory

-- the same within the standard limits
abbrev pub NoFaultWithinCount : Type 0
NoFaultWithinCount = NoFaultWithinCountOf standard

-- the canonical text of a valid path is read back as that path, before anything that ends a word
abbrev pub PathRoundTrip : Type 0
PathRoundTrip = (p : Path) (rest : List ℕ) → IsValidPath p → EndsWord rest → PathWord (path_text p ++ rest) p rest

-- the canonical text of a valid primitive of these kinds is read back as that primitive, before anything but a further line of it
abbrev pub PrimRoundTrip : Kinds → Type 0
PrimRoundTrip kinds = (p : Prim) (rest : List ℕ) → IsValidPrim p → IsWritable kinds p → NoLineOf kinds rest → ReadsPrim (prim_text p ++ rest) p rest

-- the canonical text of a valid named patch of primitives of these kinds is read back as that patch, before anything that continues
-- neither its last primitive nor its run of primitives
abbrev pub PatchRoundTrip : Kinds → Type 0
PatchRoundTrip kinds = (p : Patch) (rest : List ℕ) → IsValidPatch p → AreWritable kinds p.prims → NoLineOf kinds rest → RunEnds (skipped rest) → ReadsPatchIn kinds (patch_text p ++ rest) p rest

-- two patches r and n that start at one state: if the inverse of r's primitives then those of n commute to those of n' then the
-- inverse of those of r', then the inverse of n's then those of r commute to those of r' then the inverse of those of n'
abbrev pub SquaresTurn : Type 0
SquaresTurn = (r n n' r' : Patch) → ListsCommute (inv_all r.prims) n.prims n'.prims (inv_all r'.prims) →
    ListsCommute (inv_all n.prims) r.prims r'.prims (inv_all n'.prims)

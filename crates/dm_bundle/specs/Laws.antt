-- Laws of the text of bundles.
use Rattle.std.specs.Prelude.{◌≡◌, ◌≤◌, ◌⊎◌, ◌↔◌, ℕ, List, drop}
use Rattle.dm_named.specs.Limits.{standard}
use Rattle.dm_named.specs.Words.{WordAmong}
use Rattle.dm_named.specs.Patches.{wider_words}
use Rattle.dm_named.specs.Laws.{with_kinds}
use Rattle.dm_named.specs.declared.fault.FaultKind.{FaultKind}
use Rattle.dm_named.specs.declared.fault.FaultKind.TheVariants.{Unsupported}
use Rattle.dm_named.specs.declared.limits.Limits.{Limits}
use Rattle.dm_named.specs.declared.limits.Kinds.{Kinds}
use Rattle.dm_named.specs.declared.limits.Kinds.TheVariants as these
use Rattle.dm_bundle.specs.Bundles.{Contents, IsValidBundle, BundleText, BundleTextIn}
use Rattle.dm_bundle.specs.Canonical.{bundle_text}
use Rattle.dm_bundle.specs.Patches.{AreFewWithin, AreAllOf, AreAllWritable}
use Rattle.dm_bundle.specs.Faults.{IsWithinSizeOf, FaultWithin, ExcludesBundle}

-- a text stands for at most one bundle, whichever kinds of primitives are read
abbrev pub OneBundleIn : Kinds → Type 0
OneBundleIn kinds = (text : List ℕ) (a b : Contents) → BundleTextIn kinds text a → BundleTextIn kinds text b → a ≡ b

-- the same of the six kinds
abbrev pub OneBundle : Type 0
OneBundle = (text : List ℕ) (a b : Contents) → BundleText text a → BundleText text b → a ≡ b

-- a text stands for a bundle of primitives of these kinds exactly if it stands for it within all kinds, and its primitives are of
-- these
abbrev pub KindsChooseOnly : Type 0
KindsChooseOnly = (kinds : Kinds) (text : List ℕ) (b : Contents) → BundleTextIn kinds text b ↔ (BundleTextIn these.All text b × AreAllOf kinds b.patches)

-- within these limits, a text with a fault that says so stands for no bundle
abbrev pub FaultExcludesBundleWithin : Limits → Type 0
FaultExcludesBundleWithin limits = (text : List ℕ) (kind : FaultKind) (at : ℕ) → ExcludesBundle kind → FaultWithin limits text kind at →
    (b : Contents) → BundleTextIn limits.kinds text b → ⊥

-- the same within the standard limits
abbrev pub FaultExcludesBundle : Type 0
FaultExcludesBundle = FaultExcludesBundleWithin standard

-- within these limits, a text has at most one fault, at one place
abbrev pub OneFaultWithin : Limits → Type 0
OneFaultWithin limits = (text : List ℕ) (kind other : FaultKind) (at there : ℕ) → FaultWithin limits text kind at →
    FaultWithin limits text other there → (kind ≡ other) × (at ≡ there)

-- the same within the standard limits
abbrev pub OneFault : Type 0
OneFault = OneFaultWithin standard

-- a fault within the six kinds is the one within all kinds, or it says that a word of the further kinds is unsupported, and stands no
-- later
abbrev pub FaultOfSix : Limits → Type 0
FaultOfSix limits = (text : List ℕ) (kind other : FaultKind) (at there : ℕ) →
    FaultWithin (with_kinds limits these.Six) text kind at → FaultWithin (with_kinds limits these.All) text other there →
    ((kind ≡ other) × (at ≡ there)) ⊎ ((kind ≡ Unsupported) × WordAmong wider_words (drop at text) × (at ≤ there))

-- the text of a bundle has no fault within these limits, if both are within them
abbrev pub NoFaultWithinLimitsOf : Limits → Type 0
NoFaultWithinLimitsOf limits = (text : List ℕ) (kind : FaultKind) (at : ℕ) → FaultWithin limits text kind at →
    (b : Contents) → BundleTextIn limits.kinds text b → IsWithinSizeOf limits text → AreFewWithin limits b.patches → ⊥

-- the same within the standard limits
abbrev pub NoFaultWithinLimits : Type 0
NoFaultWithinLimits = NoFaultWithinLimitsOf standard

-- the canonical text of a valid bundle, whose primitives are of these kinds and can be written, stands for it
abbrev pub BundleRoundTrip : Kinds → Type 0
BundleRoundTrip kinds = (b : Contents) → IsValidBundle b → AreAllWritable kinds b.patches → BundleTextIn kinds (bundle_text b) b

-- the same, and the text has no fault within these limits, if both are within them
abbrev pub RoundTripWithin : Limits → Type 0
RoundTripWithin limits = (b : Contents) → IsValidBundle b → AreAllWritable limits.kinds b.patches → AreFewWithin limits b.patches → IsWithinSizeOf limits (bundle_text b) →
    BundleTextIn limits.kinds (bundle_text b) b × ((kind : FaultKind) (at : ℕ) → FaultWithin limits (bundle_text b) kind at → ⊥)

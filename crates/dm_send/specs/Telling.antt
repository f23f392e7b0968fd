-- Texts that tell what somebody holds: a bundle, or a context as `darcs log --context` writes it.
use Rattle.std.specs.Prelude.{◌≡◌, ◌≢◌, ◌⊎◌, ◌-◌, ℕ, List, [], ◌∷◌, ◌++◌}
use Rattle.dm_info.specs.PatchInfo.{PatchInfo}
use Rattle.dm_named.specs.declared.limits.Limits.{Limits}
use Rattle.dm_named.specs.declared.fault.FaultKind.TheVariants.{NoNewPatches}
use Rattle.dm_named.specs.declared.fault.ReadFault.{ReadFault}
use Rattle.dm_bundle.specs.Bundles.{BundleTextIn, Contents}
use Rattle.dm_bundle.specs.Faults.{FaultWithin}
use Rattle.dm_bundle.specs.Heading.{heading_line}
use Rattle.dm_bundle.specs.Patches.{infos_of}

-- the text after the heading of a bundle, a line of 13 bytes
abbrev pub headed : List ℕ → List ℕ
headed text = heading_line ++ 10 ∷ text

-- all that a bundle names: its new patches, and what they rest on
abbrev pub named_in : Contents → List PatchInfo
named_in b = infos_of b.patches ++ b.context

-- only a heading is missing: the text, read within these limits, is no bundle since no line is one
abbrev pub LacksHeading : Limits → List ℕ → Type 0
LacksHeading limits text = (end : ℕ) × FaultWithin limits text NoNewPatches end

-- these are the names in the bundle that the text stands for, whose primitives are of the kinds that the limits allow; or a heading is missing, and with it
-- the text stands for a bundle of no patches that rests on these
abbrev pub TellsNames : Limits → List ℕ → List PatchInfo → Type 0
TellsNames limits text names =
    ((b : Contents) × BundleTextIn limits.kinds text b × (names ≡ named_in b)) ⊎
    (LacksHeading limits text × BundleTextIn limits.kinds (headed text) (record { patches = []; context = names }))

-- why a text, read within these limits, tells no names: it has a heading and this fault; or a heading is missing, and with it the text has this fault, or
-- new patches
pub data IsNamesFault (limits : Limits) (text : List ℕ) (e : ReadFault) : Type 0 where
  in_bundle : e.kind ≢ NoNewPatches → FaultWithin limits text e.kind e.at → IsNamesFault limits text e
  in_context : LacksHeading limits text → (at : ℕ) → FaultWithin limits (headed text) e.kind at → e.at ≡ at - 13 → IsNamesFault limits text e
  has_patches : e.kind ≡ NoNewPatches → FaultWithin limits text e.kind e.at → (b : Contents) → BundleTextIn limits.kinds (headed text) b → b.patches ≢ [] → IsNamesFault limits text e

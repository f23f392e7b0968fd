-- Contexts that stand alone.
use Rattle.std.proofs.Common.{◌≡◌, ◌≢◌, ℕ, false, eqb, List, [], ◌∷◌, length, refl, sym, ◌∙◌}
use Rattle.dm_info.specs.PatchInfo.{PatchInfo}
use Rattle.dm_named.specs.declared.limits.Kinds.{Kinds}
use Rattle.dm_named.specs.declared.limits.Limits.{Limits}
use Rattle.dm_named.specs.declared.fault.FaultKind.TheVariants.{NoMemory, NoNewPatches}
use Rattle.dm_named.specs.declared.fault.ReadFault.{ReadFault}
use Rattle.dm_bundle.specs.Bundles.{BundleTextIn, Contents}
use Rattle.dm_bundle.specs.Faults.{FaultWithin}
use Rattle.dm_send.specs.Telling.{LacksHeading, named_in}

-- a bundle without new patches names its context alone
pub alone : {kinds : Kinds} {text : List ℕ} {names : List PatchInfo} (b : Contents) → b.patches ≡ [] → names ≡ named_in b → BundleTextIn kinds text b
    → BundleTextIn kinds text (record { patches = []; context = names })
alone {kinds} {text} {names} b none named stands =
    let whole : b ≡ record { patches = []; context = b.context } = rw none refl in
    rw (named, none) (rw whole at stands)

-- a list whose length was tested
pub some_left : {X : Type 0} (xs : List X) → false ≡ eqb (length xs) 0 → xs ≢ []
some_left [] t e = absurd (cc)
some_left (x ∷ xs) t e = absurd (cc)

-- a text that is no bundle for want of a heading
pub lacks : (limits : Limits) (text : List ℕ) (e : ReadFault) → e.kind ≡ NoNewPatches → (e.kind ≢ NoMemory → FaultWithin limits text e.kind e.at) → LacksHeading limits text
lacks limits text e k f = (e.at, rw k at (f (λ h. not_memory (sym k ∙ h))))
  where
    not_memory : NoNewPatches ≡ NoMemory → ⊥
    not_memory h = absurd (cc)

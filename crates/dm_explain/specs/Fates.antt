-- What becomes of the new patches of a bundle that is taken.
use Rattle.std.specs.Prelude.{◌≡◌, ◌⊎◌, ℕ, List, [], ◌∷◌, map, take, Contains}
use Rattle.std.specs.Borrow.{Bor}
use Rattle.dm_info.specs.PatchInfo.{PatchInfo}
use Rattle.dm_named.specs.Patches.{Patch}
use Rattle.dm_bundle.specs.Patches.{infos_of}
use Rattle.dm_bundle.specs.Bundles.{Contents}
use Rattle.dm_repo.specs.Repositories.{Holds}
use Rattle.dm_explain.specs.declared.fates.Fate.{Fate}
use Rattle.dm_explain.specs.declared.fates.Fate.TheVariants.{Held, Taken, Skipped}
use Rattle.dm_explain.specs.declared.fates.Fates.{Fates}

-- names that are borrowed
abbrev pub lent : List (Bor PatchInfo) → List PatchInfo
lent names = map (λ name. name.now) names

-- those of a list of which P holds, each once for each time that it stands there, in the list's order
abbrev pub AreChosen : (PatchInfo → Type 0) → List PatchInfo → List PatchInfo → Type 0
AreChosen P [] chosen = chosen ≡ []
AreChosen P (i ∷ is) chosen = (P i × ((more : List PatchInfo) × (chosen ≡ i ∷ more) × AreChosen P is more)) ⊎ ((P i → ⊥) × AreChosen P is chosen)

-- what became of the patch of a name, in a repository that held its first patches before
abbrev pub HasFate : List Patch → ℕ → Fate → PatchInfo → Type 0
HasFate repo before Held i = Contains (take before (infos_of repo)) i
HasFate repo before Taken i = Holds repo i × (Contains (take before (infos_of repo)) i → ⊥)
HasFate repo before Skipped i = Holds repo i → ⊥

-- each new patch of a bundle, in the list that its fate says
pub record AreFates (repo : List Patch) (before : ℕ) (b : Contents) (fates : Fates) : Type 0 where
  pub held : AreChosen (HasFate repo before Held) (infos_of b.patches) (lent fates.held.items)
  pub taken : AreChosen (HasFate repo before Taken) (infos_of b.patches) (lent fates.taken.items)
  pub skipped : AreChosen (HasFate repo before Skipped) (infos_of b.patches) (lent fates.skipped.items)

-- Patches taken out of a repository, and the bundle that brings them back (`darcs obliterate -o`).
use Rattle.std.specs.Prelude.{◌≡◌, ◌↔◌, ◌⊎◌, ℕ, List, [], ◌++◌, Contains}
use Rattle.dm_prim.specs.Primitives.{LawfulMap}
use Rattle.dm_info.specs.PatchInfo.{PatchInfo}
use Rattle.dm_named.specs.Patches.{Patch}
use Rattle.dm_named.specs.Commuting.{NamedCommutes}
use Rattle.dm_bundle.specs.Patches.{infos_of}
use Rattle.dm_bundle.specs.Bundles.{Contents}
use Rattle.dm_repo.specs.declared.refusal.Refusal.{Refusal}
use Rattle.dm_repo.specs.declared.refusal.Refusal.TheVariants.{Full, NoMemory}
use Rattle.dm_repo.specs.Folds.{Fold}
use Rattle.dm_repo.specs.Repositories.{IsRepo}
use Rattle.dm_send.specs.Leaving.{Leaves}
use Rattle.dm_send.specs.Minimizing.{MinimizesBehind}
use Rattle.dm_send.specs.Sending.{IsRefused, Parts, TakesAs, behind, just}

-- patches of these names go, and those that are bound to them; what stays is a repository, and the bundle of what goes brings the tree back
pub record Obliterates (repo : List Patch) (base : ℕ) (chosen : List PatchInfo) (stay : List Patch) (b : Contents) (bound : List (PatchInfo × PatchInfo)) : Type 0 where
  pub go : List Patch
  pub leaves : Leaves chosen repo stay go bound
  -- each patch stays or goes, and in its order
  pub names : Parts (Contains (infos_of stay)) (infos_of repo) (infos_of stay) (infos_of go)
  pub is_repo : IsRepo stay
  -- the bundle has what goes, and names of what stays the first `base`, and of the others only those that can't pass it, and each other
  pub kept : List Patch
  pub sent : List Patch
  pub passed : List Patch
  pub minimizes : MinimizesBehind NamedCommutes base stay go kept sent passed
  pub is_bundle : b ≡ behind kept sent
  -- what stays takes it, and has then what goes behind its own; the tree is that of the repository
  pub is_taken : TakesAs stay b go
  pub same_tree : (t : LawfulMap) → Fold repo t ↔ Fold (stay ++ go) t

-- an empty repository refuses what stays, or what stays refuses the bundle of what goes; memory may run out at any time
abbrev pub RefusesToObliterate : List Patch → ℕ → List PatchInfo → Refusal → Type 0
RefusesToObliterate repo base chosen Full = (stay : List Patch) × (go : List Patch) × (bound : List (PatchInfo × PatchInfo)) ×
    Leaves chosen repo stay go bound × (IsRefused [] (just stay) ⊎
    ((kept : List Patch) × (sent : List Patch) × (passed : List Patch) × MinimizesBehind NamedCommutes base stay go kept sent passed × IsRefused stay (behind kept sent)))
RefusesToObliterate repo base chosen NoMemory = Unit {0}
RefusesToObliterate repo base chosen other = ⊥

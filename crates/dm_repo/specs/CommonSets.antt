-- What a repository and a bundle have in common, and what of a bundle is missing (`darcs apply`; that a context is closed under explicit
-- dependencies, so that it may stop at a tag, is this project's).
use Rattle.std.specs.Prelude.{◌≡◌, ℕ, ◌<◌, List, take, slice_get, Some, ◌⊎◌}
use Rattle.std.specs.List.{Contains}
use Rattle.dm_info.specs.PatchInfo.{PatchInfo}
use Rattle.dm_named.specs.Patches.{Patch}
use Rattle.dm_bundle.specs.Patches.{infos_of}
use Rattle.dm_bundle.specs.Bundles.{Contents}
use Rattle.dm_repo.specs.Repositories.{Holds}

-- the least set that has the context's patch infos and, for each held patch in it, what that patch names as dependencies
pub data Closed (repo : List Patch) (context : List PatchInfo) : PatchInfo → Type 0 where
  given : {i : PatchInfo} → Contains context i → Closed repo context i
  needed : {x : Patch} {d : PatchInfo} → Contains repo x → Closed repo context x.info → Contains x.deps d → Closed repo context d

-- the common set: that one, and the new patches that are held, with nothing added for what these depend on
abbrev pub Common : List Patch → Contents → PatchInfo → Type 0
Common repo b i = Closed repo b.context i ⊎ (Holds b.patches i × Holds repo i)

-- all of these are held
abbrev pub HoldsAll : List Patch → List PatchInfo → Type 0
HoldsAll repo infos = (i : PatchInfo) → Contains infos i → Holds repo i

-- the whole context is held
abbrev pub KnowsContext : List Patch → Contents → Type 0
KnowsContext repo b = HoldsAll repo b.context

-- every new patch is held
abbrev pub HasAll : List Patch → Contents → Type 0
HasAll repo b = HoldsAll repo (infos_of b.patches)

-- what the new patch at place n may name as a dependency: what is common, and earlier new patches
abbrev pub IsKnown : List Patch → Contents → ℕ → PatchInfo → Type 0
IsKnown repo b n i = Common repo b i ⊎ Holds (take n b.patches) i

-- the new patch at place n is held, or names only what it may
abbrev pub HasDependenciesAt : List Patch → Contents → ℕ → Type 0
HasDependenciesAt repo b n = (x : Patch) (d : PatchInfo) →
    slice_get b.patches n ≡ Some x → (Holds repo x.info → ⊥) → Contains x.deps d → IsKnown repo b n d

-- each new patch is held, or names only what it may
abbrev pub HasDependencies : List Patch → Contents → Type 0
HasDependencies repo b = (n : ℕ) → HasDependenciesAt repo b n

-- Q holds of n and of nothing before it
abbrev pub First : (ℕ → Type 0) → ℕ → Type 0
First Q n = Q n × ((k : ℕ) → k < n → Q k → ⊥)

-- the patch info at a place isn't held
abbrev pub LacksAt : List Patch → List PatchInfo → ℕ → Type 0
LacksAt repo infos k = (i : PatchInfo) × (slice_get infos k ≡ Some i) × (Holds repo i → ⊥)

-- the new patch at place n isn't held, and it may not name what it names at place d
pub record LacksDependency (repo : List Patch) (b : Contents) (n d : ℕ) : Type 0 where
  pub patch : Patch
  pub dependency : PatchInfo
  pub patch_at : slice_get b.patches n ≡ Some patch
  pub dependency_at : slice_get patch.deps d ≡ Some dependency
  pub is_new : Holds repo patch.info → ⊥
  pub unknown : IsKnown repo b n dependency → ⊥

-- n is the first new patch that lacks a dependency, and d the first that it lacks
abbrev pub LacksFirst : List Patch → Contents → ℕ → ℕ → Type 0
LacksFirst repo b n d = First (λ k. (e : ℕ) × LacksDependency repo b k e) n × First (LacksDependency repo b n) d

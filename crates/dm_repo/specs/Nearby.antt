-- Which patches of a repository have to do with a bundle.
use Rattle.std.specs.Prelude.{◌≡◌, ◌≤◌, ◌++◌, ℕ, Bool, true, false, List, take, drop, filter, length, get_or, slice_get, Some}
use Rattle.std.specs.Ordering.{is_lt}
use Rattle.std.specs.List.{All, AllPairs, Contains}
use Rattle.dm_tree.specs.Paths.{Path}
use Rattle.dm_tree.specs.Trees.{path_cmp}
use Rattle.dm_tree.specs.Reach.{AreBelowRoot, AreTops}
use Rattle.dm_info.specs.PatchInfo.{PatchInfo}
use Rattle.dm_named.specs.Patches.{Patch}
use Rattle.dm_bundle.specs.Bundles.{Contents}
use Rattle.dm_repo.specs.Squares.{Placed, placed, placed_from}
use Rattle.dm_repo.specs.Aside.{StandsAside, StandsNear, LeavesAside}
use Rattle.dm_repo.specs.Weighing.{IsBundleSplit}

-- the first doesn't come before the second in the order of names
abbrev pub IsNotBefore : Path → Path → Type 0
IsNotBefore p q = is_lt (path_cmp p q) ≡ false

-- none of these is at or under another one, and none comes before a later one in the order of names
pub record AreSortedTops (ps : List Path) : Type 0 where
  pub tops : AreTops ps
  pub falls : AllPairs IsNotBefore ps

-- the mark at this place is set
abbrev pub IsSet : List Bool → ℕ → Type 0
IsSet marks k = slice_get marks k ≡ Some true

-- the patches behind the first of a repository, each with its place
abbrev pub behind : ℕ → List Patch → List Placed
behind kept repo = placed_from kept (drop kept repo)

-- those whose marks are set
abbrev pub marked : List Bool → List Placed → List Placed
marked marks xs = filter (λ x. get_or marks x.0 false) xs

-- the patch stands at this place, behind the first of the repository
pub record StandsAt (repo : List Patch) (kept k : ℕ) (x : Patch) : Type 0 where
  pub behind : kept ≤ k
  pub at : slice_get repo k ≡ Some x

-- the patch at this place stands near the paths if its mark is set; else it stands aside, and isn't common
pub record IsToldApart (common near : List Bool) (ps : List Path) (k : ℕ) (x : Patch) : Type 0 where
  pub stays : IsSet near k → StandsNear ps x
  pub aside : (IsSet near k → ⊥) → StandsAside ps x
  pub uncommon : (IsSet near k → ⊥) → IsSet common k → ⊥

-- each patch behind the first of the repository is told apart
pub record AreToldApart (repo : List Patch) (kept : ℕ) (common near : List Bool) (ps : List Path) : Type 0 where
  pub each : (k : ℕ) (x : Patch) → StandsAt repo kept k x → IsToldApart common near ps k x

-- each patch of this name is marked
pub record IsNamedMarked (repo : List Patch) (near : List Bool) (i : PatchInfo) : Type 0 where
  pub each : (j : ℕ) (y : Patch) → slice_get repo j ≡ Some y → i ≡ y.info → IsSet near j

-- all that these patch infos name is marked
pub record AreNamedMarked (repo : List Patch) (near : List Bool) (infos : List PatchInfo) : Type 0 where
  pub each : (j : ℕ) (y : Patch) → slice_get repo j ≡ Some y → Contains infos y.info → IsSet near j

-- all that common patches there name is marked
pub record AreNeededMarked (repo : List Patch) (kept : ℕ) (common near : List Bool) : Type 0 where
  pub each : (k : ℕ) (x : Patch) → StandsAt repo kept k x → IsSet common k → AreNamedMarked repo near x.deps

-- the marks tell which patches of the repository have to do with the new ones, all of which stand near the paths
pub record IsNearby (repo : List Patch) (kept : ℕ) (common : List Bool) (new : List Patch) (ps : List Path) (near : List Bool) : Type 0 where
  pub below : AreBelowRoot ps
  pub new_near : All (StandsNear ps) new
  pub told : AreToldApart repo kept common near ps
  pub needed : AreNeededMarked repo kept common near

-- the bundle is split, with all the rest; of that some is here, and the others stand aside, while the front behind the kept patches and the new ones
-- stand near
pub record IsNearSplit (repo : List Patch) (b : Contents) (kept : ℕ) (front rest new : List Placed) (ps : List Path) : Type 0 where
  pub full : List Placed
  pub split : IsBundleSplit repo b (placed (take kept repo) ++ front) full new
  pub leaves : LeavesAside ps full rest
  pub front_near : All (λ x. StandsNear ps x.1) front
  pub new_near : All (λ x. StandsNear ps x.1) new

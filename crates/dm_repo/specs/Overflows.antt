-- Where a patch goes past a limit: the patch, its primitive, and the tree that this was applied to.
use Rattle.std.specs.Prelude.{◌≡◌, ℕ, ◌+◌, ◌<◌, List, length, ◌⊎◌}
use Rattle.std.specs.FinMap as map
use Rattle.dm_tree.specs.declared.fault.TreeFault.TheVariants.{TooDeep, TooLarge}
use Rattle.dm_tree.specs.Trees.{Map}
use Rattle.dm_prim.specs.Primitives.{Applies, LawfulMap}
use Rattle.dm_named.specs.Patches.{Patch}
use Rattle.dm_bundle.specs.Bundles.{Contents}
use Rattle.dm_repo.specs.declared.misfit.Misfit.{Misfit}
use Rattle.dm_repo.specs.declared.overflow.Overflow.{Overflow}
use Rattle.dm_repo.specs.declared.overflow.Overflow.TheVariants.{Front, Merged}
use Rattle.dm_repo.specs.declared.policy.Policy.{Policy}
use Rattle.dm_repo.specs.Folds.{IsRoot, ShallowFold}
use Rattle.dm_repo.specs.Misfits.{StopsWith}
use Rattle.dm_repo.specs.Sifting.{MergesUnder}
use Rattle.dm_repo.specs.Squares.{Placed}
use Rattle.dm_repo.specs.Weighing.{Fits, IsBundleSplit, most_patches}

-- the patches before this one lead shallowly on from s, and after that one of its primitives applies, and goes past a limit: it makes a path of
-- more than 32 names, or is a replace in a file that is too large
pub record OverflowsWith {Z : Type 0} (s : LawfulMap) (xs : List Placed) (m : Misfit Z) : Type 0 where
  pub stops : StopsWith s xs m
  pub applies : (t : Map) × Applies stops.faults.prim (map.get m.tree) t
  pub is_past : (m.fault ≡ TooDeep) ⊎ (m.fault ≡ TooLarge)

-- the patch is a common one, as the front is applied from the root alone
pub record FrontOverflows {Z : Type 0} (repo : List Patch) (b : Contents) (m : Misfit Z) : Type 0 where
  pub front : List Placed
  pub rest : List Placed
  pub new : List Placed
  pub bundle_split : IsBundleSplit repo b front rest new
  pub start : LawfulMap
  pub is_root : IsRoot start
  pub overflows : OverflowsWith start front m

-- the patch is a new one, as the merged ones are applied to the repository's tree
pub record MergedOverflows {Z : Type 0} (repo : List Patch) (b : Contents) (policy : Policy) (m : Misfit Z) : Type 0 where
  pub rest : List Placed
  pub new : List Placed
  pub merged : List Placed
  pub skipped : ℕ
  pub fits : Fits repo b rest new
  pub merges : MergesUnder policy rest new merged skipped
  pub tree : LawfulMap
  pub folds : ShallowFold repo tree
  pub overflows : OverflowsWith tree merged m

-- the first patch that goes past a limit where the front and then the merged patches are applied
abbrev pub IsOverflow : {Z : Type 0} → List Patch → Contents → Policy → Overflow Z → Type 0
IsOverflow repo b policy (Front m) = FrontOverflows repo b m
IsOverflow repo b policy (Merged m) = MergedOverflows repo b policy m

-- the bundle is merged, and then there would be too many patches, whatever they do
pub record MergesTooMany (repo : List Patch) (b : Contents) (policy : Policy) : Type 0 where
  pub rest : List Placed
  pub new : List Placed
  pub merged : List Placed
  pub skipped : ℕ
  pub fits : Fits repo b rest new
  pub merges : MergesUnder policy rest new merged skipped
  pub are_many : most_patches < length repo + length merged

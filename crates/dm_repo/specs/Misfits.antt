-- Where the new patches of a bundle don't fit: the patch, its primitive, and what the tree answers to that.
use Rattle.std.specs.Prelude.{◌≡◌, ◌≢◌, ℕ, List, ◌∷◌, ◌++◌, take, slice_get, Some, Err}
use Rattle.std.specs.FinMap as map
use Rattle.dm_tree.specs.Trees.{Tree}
use Rattle.dm_tree.specs.declared.fault.TreeFault.{TreeFault}
use Rattle.dm_tree.specs.declared.fault.TreeFault.TheVariants.{NoMemory}
use Rattle.dm_prim.specs.InTurn.{InTurn}
use Rattle.dm_prim.specs.Primitives.{Prim, LawfulMap}
use Rattle.dm_prim.specs.Applying.{AdmitsFault, FaultsAs}
use Rattle.dm_named.specs.Patches.{Patch}
use Rattle.dm_bundle.specs.Bundles.{Contents}
use Rattle.dm_repo.specs.declared.misfit.Misfit.{Misfit}
use Rattle.dm_repo.specs.Folds.{LeadsShallowly, PatchLeadsShallowly, ShallowFold}
use Rattle.dm_repo.specs.Squares.{Placed, patches}
use Rattle.dm_repo.specs.Repositories.{IsMapOf, IsTreeOf}
use Rattle.dm_repo.specs.Weighing.{IsBundleSplit}

-- the repository and the bundle are split into a front, a rest and the patches to merge, and the front makes the tree
abbrev pub IsBasis : List Patch → Contents → Tree → List Placed → List Placed → Type 0
IsBasis repo b tree rest new = (front : List Placed) × IsBundleSplit repo b front rest new × IsTreeOf (patches front) tree

-- the primitives of x before this place lead shallowly from s to the tree; the one at the place has this fault there, which may come then and is the first that does
pub record FaultsAt (x : Patch) (s : LawfulMap) (place : ℕ) (tree : Tree) (fault : TreeFault) : Type 0 where
  pub prim : Prim
  pub prim_at : slice_get x.prims place ≡ Some prim
  pub reached : LawfulMap
  pub is_map : IsMapOf tree reached
  pub leads : InTurn LeadsShallowly (take place x.prims) s reached
  pub admits : AdmitsFault prim (map.get tree) fault
  pub answers : FaultsAs {T = Unit {0}} prim (map.get tree) (Err fault)

-- the patches before this one lead shallowly on from s, and one of its primitives has a fault after that
pub record StopsWith {Z : Type 0} (s : LawfulMap) (xs : List Placed) (m : Misfit Z) : Type 0 where
  pub before : List Placed
  pub after : List Placed
  pub at : xs ≡ before ++ (m.place, m.patch) ∷ after
  pub tree : LawfulMap
  pub leads : InTurn PatchLeadsShallowly (patches before) s tree
  pub faults : FaultsAt m.patch tree m.prim m.tree m.fault
  pub is_told : m.fault ≢ NoMemory

-- the first new patch that doesn't apply to what the bundle was made from, and the fault that one of its primitives has there
pub record IsMisfit {Z : Type 0} (repo : List Patch) (b : Contents) (m : Misfit Z) : Type 0 where
  pub front : List Placed
  pub rest : List Placed
  pub new : List Placed
  pub bundle_split : IsBundleSplit repo b front rest new
  pub base : LawfulMap
  pub folds : ShallowFold (patches front) base
  pub stops : StopsWith base new m

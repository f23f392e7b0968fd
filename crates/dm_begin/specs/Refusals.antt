-- Why names and a tree have no beginning.
use Rattle.std.specs.Prelude.{◌≡◌, ◌≢◌, ◌<◌, ◌≤◌, ◌*◌, ℕ, List, [], length, take, slice_get, Some}
use Rattle.std.specs.List.{Contains}
use Rattle.dm_info.specs.PatchInfo.{PatchInfo}
use Rattle.dm_tree.specs.Trees.{Tree}
use Rattle.dm_named.specs.Limits.{own}
use Rattle.dm_bundle.specs.Patches.{Distinct}
use Rattle.dm_begin.specs.Beginnings.{most_prims}
use Rattle.dm_begin.specs.Making.{tree_prims}
use Rattle.dm_begin.specs.declared.beginning.BeginFault.{BeginFault}
use Rattle.dm_begin.specs.declared.beginning.BeginFault.TheVariants.{NoName, TooManyNames, NameTwice, TooManyPrims, NoMemory}

-- there are some, and no more than a repository may have patches
pub record AreNames (names : List PatchInfo) : Type 0 where
  pub some : names ≢ []
  pub few : length names ≤ own.patches

-- the name at this place is one of those before it, which are distinct
pub record IsTwice (names : List PatchInfo) (place : ℕ) : Type 0 where
  pub name : PatchInfo
  pub here : slice_get names place ≡ Some name
  pub before : Contains (take place names) name
  pub first : Distinct (take place names)

-- why there are no patches of these names: the first of these that holds
abbrev pub RefusesNames : List PatchInfo → BeginFault → Type 0
RefusesNames names NoName = names ≡ []
RefusesNames names TooManyNames = own.patches < length names
RefusesNames names (NameTwice place) = AreNames names × IsTwice names place
RefusesNames names TooManyPrims = ⊥
RefusesNames names NoMemory = AreNames names

-- why no patches of these names make the tree: the names are refused, or else the primitives are more than fit into so many patches; memory
-- may run out at any time after the names were counted
abbrev pub RefusesBeginning : List PatchInfo → Tree → BeginFault → Type 0
RefusesBeginning names t TooManyPrims = AreNames names × Distinct names × (length names * most_prims < length (tree_prims t))
RefusesBeginning names t other = RefusesNames names other

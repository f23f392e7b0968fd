-- With which repository a mirror begins at a tag.
use Rattle.std.specs.Prelude.{◌≡◌, ◌≢◌, ◌≤◌, List, [], length}
use Rattle.dm_info.specs.PatchInfo.{PatchInfo}
use Rattle.dm_tree.specs.Trees.{Tree}
use Rattle.dm_named.specs.Patches.{Patch}
use Rattle.dm_repo.specs.Repositories.{IsRepo}
use Rattle.dm_repo.specs.Weighing.{most_patches}
use Rattle.dm_begin.specs.Bases.{IsLast, IsTag, MayHaveBase}
use Rattle.dm_begin.specs.Beginnings.{IsBeginning}
use Rattle.dm_begin.specs.Making.{rows}
use Rattle.dm_begin.specs.Refusals.{RefusesBeginning}
use Rattle.dm_commands.specs.declared.beginning.StartFault.{StartFault}
use Rattle.dm_commands.specs.declared.beginning.StartFault.TheVariants.{NoTag, NoEntry, Beginning}

-- some patches are a repository, and no more than one may have
pub record IsWhole (patches : List Patch) : Type 0 where
  pub is_repo : IsRepo patches
  pub some : patches ≢ []
  pub few : length patches ≤ most_patches

-- the last of the names is that of a tag
abbrev pub EndsInTagName : List PatchInfo → Type 0
EndsInTagName names = (tag : PatchInfo) × IsLast names tag × IsTag tag

-- the repository has a patch of each of the names, in their order, the last of which is a tag's; they make the tree, which has something in it; and all of
-- them may be its base
pub record BeginsAtTag (names : List PatchInfo) (tree : Tree) (repo : List Patch) : Type 0 where
  pub tag : EndsInTagName names
  pub some : rows tree ≢ []
  pub is_beginning : IsBeginning names tree repo
  pub may : MayHaveBase repo (length names)

-- why there is none: the last name isn't a tag's, or there is nothing in the tree, or names and tree have no beginning
abbrev pub RefusesStart : List PatchInfo → Tree → StartFault → Type 0
RefusesStart names tree NoTag = (names ≢ []) × (EndsInTagName names → ⊥)
RefusesStart names tree NoEntry = rows tree ≡ []
RefusesStart names tree (Beginning fault) = RefusesBeginning names tree fault

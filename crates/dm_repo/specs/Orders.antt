-- Two bundles that are taken in both orders, where conflicts are refused.
use Rattle.std.specs.Prelude.{◌≡◌, ◌≢◌, ◌⊎◌, List, ◌++◌, Option, Some, None}
use Rattle.dm_tree.specs.Trees.{Tree}
use Rattle.dm_named.specs.Patches.{Patch}
use Rattle.dm_bundle.specs.Patches.{infos_of, SameMembers}
use Rattle.dm_bundle.specs.Bundles.{Contents}
use Rattle.dm_bundle.specs.Context.{AreDisjoint}
use Rattle.dm_repo.specs.declared.refusal.Refusal.{Refusal}
use Rattle.dm_repo.specs.declared.refusal.Refusal.TheVariants.{NoMemory}
use Rattle.dm_repo.specs.declared.policy.Policy.TheVariants.{Refuse}
use Rattle.dm_repo.specs.Repositories.{Repository, IsTreeOf}
use Rattle.dm_repo.specs.Weighing.{IsNothingNew, IsMergeOf, RefusesBundle}

-- the bundle is taken: its merged patches are appended, and these are all patches after that
pub record IsTaken (repo : List Patch) (b : Contents) (after : List Patch) : Type 0 where
  pub merged : List Patch
  pub is_merge : IsMergeOf repo b Refuse merged 0
  pub appended : after ≡ repo ++ merged

-- the bundle isn't taken: nothing is new, or it is refused, out of memory aside
abbrev pub IsNotTaken : List Patch → Contents → Type 0
IsNotTaken repo b = IsNothingNew repo b ⊎ ((why : Refusal) × (why ≢ NoMemory) × RefusesBundle repo b Refuse why)

-- b is taken, and then c
pub record TakesInTurn (repo : List Patch) (b c : Contents) (after : List Patch) : Type 0 where
  pub between : List Patch
  pub first : IsTaken repo b between
  pub second : IsTaken between c after

-- not both are taken, b and then c: b isn't, or it is, and c isn't after it
abbrev pub StopsInTurn : List Patch → Contents → Contents → Type 0
StopsInTurn repo b c = IsNotTaken repo b ⊎ ((between : List Patch) × IsTaken repo b between × IsNotTaken between c)

-- the two repositories are those after b and then c, and after c and then b; where none are returned, one of these orders isn't taken
abbrev pub TakesBothOrders : List Patch → Contents → Contents → Option (Repository × Repository) → Type 0
TakesBothOrders repo b c None = StopsInTurn repo b c ⊎ StopsInTurn repo c b
TakesBothOrders repo b c (Some pair) = TakesInTurn repo b c pair.0.patches × TakesInTurn repo c b pair.1.patches

-- the bundle's context names exactly the patches of the repository
abbrev pub IsOverWhole : List Patch → Contents → Type 0
IsOverWhole repo b = SameMembers b.context (infos_of repo)

-- no patch info is one of a new patch of both
abbrev pub ShareNoPatch : Contents → Contents → Type 0
ShareNoPatch b c = AreDisjoint (infos_of b.patches) (infos_of c.patches)

-- the patches of both make one tree, under the same names
pub record AreAlike (xs ys : List Patch) : Type 0 where
  pub trees : (s t : Tree) → IsTreeOf xs s → IsTreeOf ys t → s ≡ t
  pub names : SameMembers (infos_of xs) (infos_of ys)

-- both orders of two bundles that rest on the whole repository, and share no patch, end alike
abbrev pub EndsAlike : List Patch → Contents → Contents → Option (Repository × Repository) → Type 0
EndsAlike repo b c None = Unit {0}
EndsAlike repo b c (Some pair) = IsOverWhole repo b → IsOverWhole repo c → ShareNoPatch b c → AreAlike pair.0.patches pair.1.patches

-- the patches of both repositories, where two are returned
abbrev pub patches_of_both : Option (Repository × Repository) → Option (List Patch × List Patch)
patches_of_both None = None
patches_of_both (Some pair) = Some (pair.0.patches, pair.1.patches)

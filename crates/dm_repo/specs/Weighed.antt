-- What weighing returns, over what the code holds.
use Rattle.std.specs.Prelude.{Bool, List}
use Rattle.std.specs.FinMap as map
use Rattle.dm_named.specs.Patches.{Patch}
use Rattle.dm_bundle.specs.Bundles.{Contents}
use Rattle.dm_repo.specs.declared.policy.Policy.{Policy}
use Rattle.dm_repo.specs.declared.weighed.Weighed.{Weighed}
use Rattle.dm_repo.specs.declared.weighed.Weighed.TheVariants.{NothingNew, Merged}
use Rattle.dm_repo.specs.Trials.{KeepsPart, MakesPart}
use Rattle.dm_repo.specs.Marking.{AreMarked}
use Rattle.dm_repo.specs.Weighing.{HasPrerequisites, IsNothingNew, IsMergeOf}

-- the bundle's names were looked up, and the marks say what was found
pub record IsLookedUp (repo : List Patch) (b : Contents) (common held : List Bool) : Type 0 where
  pub prerequisites : HasPrerequisites repo b
  pub marked : AreMarked repo b common held

-- nothing is new, or these are the merged patches, the part of the tree after them, and how many are skipped
abbrev pub Weighs : {Z : Type 0} → List Patch → Contents → Policy → Weighed Z → Type 0
Weighs repo b policy NothingNew = IsNothingNew repo b
Weighs repo b policy (Merged m) = IsMergeOf repo b policy m.patches.items m.skipped × MakesPart repo m.patches.items m.paths.items (map.get m.part)

-- with the merged patches the repository is one again, and the part of the tree after them is the one to keep
abbrev pub LeavesRepo : {Z : Type 0} → List Patch → Weighed Z → Type 0
LeavesRepo repo NothingNew = Unit {0}
LeavesRepo repo (Merged m) = KeepsPart repo m.patches.items m.paths.items (map.get m.part)

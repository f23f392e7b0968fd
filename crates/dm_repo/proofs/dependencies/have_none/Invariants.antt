use Rattle.std.proofs.Common.{ℕ, ◌<◌, List}
use Rattle.dm_named.specs.Patches.{Patch}
use Rattle.dm_bundle.specs.Patches.{infos_of}
use Rattle.dm_repo.specs.Repositories.{Holds}
use Rattle.dm_repo.specs.CommonSets.{HasDependenciesAt}
use Rattle.dm_repo.specs.MarkLists.{AreMarksOf}
use Rattle.dm_repo.proofs.dependencies.have_none.Given as goal

abbrev pub invariant-loop-n : goal.invariant-loop-n
invariant-loop-n g l = (repo : List Patch) → AreMarksOf l.held (infos_of l.bundle.patches) (Holds repo) → (m : ℕ) → m < l.n → HasDependenciesAt repo l.bundle m

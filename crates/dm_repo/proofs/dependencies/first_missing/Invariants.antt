use Rattle.std.proofs.Common.{ℕ, ◌<◌}
use Rattle.dm_repo.specs.CommonSets.{HasDependenciesAt}
use Rattle.dm_repo.proofs.dependencies.first_missing.Given as goal

abbrev pub invariant-loop-n : goal.invariant-loop-n
invariant-loop-n g l = (m : ℕ) → m < l.n → HasDependenciesAt l.repo.patches l.bundle m

use Rattle.std.proofs.Common.{take}
use Rattle.dm_repo.specs.Squares.{patches}
use Rattle.dm_repo.specs.Trials.{AddsPaths}
use Rattle.dm_repo.proofs.trial.add_names_of_placed.Given as goal

abbrev pub invariant-loop-k : goal.invariant-loop-k
invariant-loop-k g l = AddsPaths (patches (take l.k l.list)) l.initial.paths.items l.paths.items

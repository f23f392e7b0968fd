use Rattle.std.proofs.Common.{◌≡◌, ◌-◌, length, drop}
use Rattle.dm_repo.specs.Squares.{patches}
use Rattle.dm_repo.specs.Trials.{undo_all}
use Rattle.dm_repo.proofs.trial.undone.Given as goal

abbrev pub invariant-loop-k : goal.invariant-loop-k
invariant-loop-k g l = patches l.copies.items ≡ undo_all (drop (length l.list - l.k) l.list)

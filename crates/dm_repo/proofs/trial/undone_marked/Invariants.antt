use Rattle.std.proofs.Common.{◌-◌, length}
use Rattle.dm_repo.proofs.NearTakenBack.{UndoneFrom}
use Rattle.dm_repo.proofs.trial.undone_marked.Given as goal

abbrev pub invariant-loop-k : goal.invariant-loop-k
invariant-loop-k g l = UndoneFrom l.list l.marks (length l.list - l.k) l.copies.items

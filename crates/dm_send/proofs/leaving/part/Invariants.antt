use Rattle.std.proofs.Common.{take}
use Rattle.dm_send.specs.Leaving.{Leaves}
use Rattle.dm_send.proofs.leaving.part.Given as goal

abbrev pub invariant-loop-at : goal.invariant-loop-at
invariant-loop-at g l = Leaves l.chosen (take l.at l.repo.patches) l.parting.stay.items l.parting.go.items l.parting.bound.items

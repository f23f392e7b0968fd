use Rattle.std.proofs.Common.{take}
use Rattle.dm_agree.specs.Owners.{Notes}
use Rattle.dm_agree.proofs.owners.note.Given as goal

abbrev pub invariant-loop-patch : goal.invariant-loop-patch
invariant-loop-patch g l = Notes l.fn.owners (take l.patch-index l.patches) l.place l.owners

use Rattle.dm_tree.proofs.Places.{Shifted}
use Rattle.dm_tree.proofs.ends.shift.Given as goal

abbrev pub invariant-loop-i : goal.invariant-loop-i
invariant-loop-i l = Shifted l.start l.from l.to l.initial.ends l.ends l.i

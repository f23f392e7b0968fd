use Rattle.dm_tree.proofs.Places.{Filled}
use Rattle.dm_tree.proofs.ends.fill.Given as goal

abbrev pub invariant-loop-i : goal.invariant-loop-i
invariant-loop-i l = Filled l.start l.from l.fresh l.initial.ends l.ends l.i

use Rattle.dm_begin.proofs.TwiceLemmas.{Noted}
use Rattle.dm_begin.proofs.names.first_twice.Given as goal

abbrev pub invariant-loop-i : goal.invariant-loop-i
invariant-loop-i g l = Noted l.names l.i l.set.keys

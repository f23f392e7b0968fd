use Rattle.dm_begin.proofs.BaseLemmas.{Walked}
use Rattle.dm_begin.proofs.base.base_len.Given as goal

abbrev pub invariant-loop-i : goal.invariant-loop-i
invariant-loop-i g l = Walked l.patches l.i l.base l.some

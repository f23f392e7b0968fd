use Rattle.std.proofs.Common.{take}
use Rattle.dm_explain.proofs.TokenLemmas.{Stays}
use Rattle.dm_explain.proofs.passing.line_that_stays.Given as goal

abbrev pub invariant-loop-i : goal.invariant-loop-i
invariant-loop-i l = Stays l.tokens (take l.i l.lines) → ⊥

use Rattle.dm_explain.proofs.LineLemmas.{Counted}
use Rattle.dm_explain.proofs.place.newlines_in.Given as goal

abbrev pub invariant-loop-k : goal.invariant-loop-k
invariant-loop-k l = Counted l.text l.k l.count

use Rattle.dm_explain.proofs.LineLemmas.{counted_one, counted_none}
use Rattle.dm_explain.proofs.place.newlines_in.Goals as goal
use Rattle.dm_explain.proofs.place.newlines_in.Goals.{then-text-k-eq10, else-text-k-eq10}

pub loop-k-preserved : goal.loop-k-preserved
loop-k-preserved c = elim c.if-text-k-eq10.branch [
  | then-text-k-eq10 w ↦ rw w.count-is (counted_one c.args.text.now c.loop-k.k c.loop-k.count c.loop-k-test.true w.if-text-k-eq10.true c.loop-k.invariant)
  | else-text-k-eq10 w ↦ rw w.count-is (counted_none c.args.text.now c.loop-k.k c.loop-k.count c.loop-k-test.true w.if-text-k-eq10.false c.loop-k.invariant)
]

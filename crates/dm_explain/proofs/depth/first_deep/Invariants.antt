use Rattle.dm_explain.specs.Rows.{AreShallowBefore}
use Rattle.dm_explain.proofs.depth.first_deep.Given as goal

abbrev pub invariant-loop-row : goal.invariant-loop-row
invariant-loop-row l = AreShallowBefore l.from l.to l.rows l.row-index

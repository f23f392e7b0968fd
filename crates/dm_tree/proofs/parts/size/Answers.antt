use Rattle.std.proofs.Common.{arith}
use Rattle.dm_tree.proofs.Joined.{size_passed, size_all, bound_all}
use Rattle.dm_tree.proofs.parts.size.Goals as goal

pub loop-part-preserved : goal.loop-part-preserved
loop-part-preserved g c = record {
  value = omega (arith, c.loop-part.invariant.value, c.size.ensures, size_passed c.args.parts.now c.loop-part.part-index c.part-item.result c.loop-part-test.true c.part-item.is);
  bound = omega (arith, c.loop-part.invariant.bound, c.size.type_inv);
}

pub returns-clause-value : goal.returns-clause-value
returns-clause-value g c = size_all c.args.parts.now c.loop-part.part-index c.loop-part.total c.loop-part-test.false c.loop-part.invariant.value

pub returns-clause-bound : goal.returns-clause-bound
returns-clause-bound g c = bound_all _ c.loop-part.part-index c.loop-part.total c.loop-part.auto.part-index-end c.loop-part.invariant.bound

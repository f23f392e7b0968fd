use Rattle.std.proofs.Common.{arith}
use Rattle.dm_prim.proofs.SketchLemmas.{leading_all, below_root}
use Rattle.dm_prim.proofs.sketch.with_leading.Goals as goal

pub returns-clause-leading : goal.returns-clause-leading
returns-clause-leading g c = leading_all c.args.path.now c.loop-k.leading (λ j l. c.loop-k.invariant.set j (omega (arith, l, c.loop-k-test.false, c.len-k-end.ensures.value)))

pub returns-clause-below_root : goal.returns-clause-below_root
returns-clause-below_root g c = below_root c.args.path.now c.len-k-end.ensures.valid

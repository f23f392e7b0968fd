use Rattle.dm_bundle.proofs.Members.{distinct_further, doubled_at}
use Rattle.dm_bundle.proofs.bundle.are_doubled.Goals as goal

pub returns-then-is_among : goal.returns-then-is_among
returns-then-is_among g c = doubled_at c.args.patches.now c.loop-i.i c.index-patches-i.result c.loop-i-test.true c.index-patches-i.is (rw (← c.info.ensures) c.if-is_among.ensures)

pub loop-i-preserved : goal.loop-i-preserved
loop-i-preserved g c = distinct_further c.args.patches.now c.loop-i.i c.index-patches-i.result c.loop-i-test.true c.index-patches-i.is c.loop-i.invariant (rw (← c.info.ensures) c.if-is_among.ensures)

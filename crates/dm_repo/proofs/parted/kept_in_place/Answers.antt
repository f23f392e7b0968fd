use Rattle.std.proofs.Common.{true, false, arith}
use Rattle.dm_repo.proofs.Splits.{marked_more, mark_at}
use Rattle.dm_repo.proofs.parted.kept_in_place.Goals as goal

pub loop-k-init : goal.loop-k-init
loop-k-init c = λ k l. absurd (omega (arith, l))

pub loop-k-preserved : goal.loop-k-preserved
loop-k-preserved c = marked_more c.args.marks.now c.loop-k.k c.loop-k.invariant (mark_at c.args.marks.now c.loop-k.k true false c.loop-k-test.true c.if-not-marks-k.false)

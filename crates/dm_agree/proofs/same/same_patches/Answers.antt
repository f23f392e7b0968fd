use Rattle.std.proofs.Common.{refl}
use Rattle.dm_agree.proofs.Sames.{same_on}
use Rattle.dm_agree.proofs.same.same_patches.Goals as goal

pub loop-i-preserved : goal.loop-i-preserved
loop-i-preserved g c =
    same_on c.args.xs.now c.args.ys.now c.loop-i.i c.index-xs-i.result c.index-ys-i.result c.loop-i-test.true c.if-xs-ys.false c.index-xs-i.is c.index-ys-i.is (c.if-not-same_patch.ensures.0 refl) c.loop-i.invariant

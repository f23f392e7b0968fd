use Rattle.std.proofs.Common.{take}
use Rattle.dm_bundle.proofs.ReplaceLemmas.{few_next}
use Rattle.dm_bundle.proofs.limits.have_few_replaces.Goals as goal

pub returns-in_default : goal.returns-in_default
returns-in_default g c = λ few.
    let ps = c.args.patches.now in
    let k = c.loop-patch.patch-index in
    c.in_default.ensures (take k ps) c.loop-patch.invariant (few_next c.args.limits ps k c.patch-item.result c.loop-patch-test.true c.patch-item.is few)

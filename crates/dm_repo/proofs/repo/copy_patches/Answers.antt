use Rattle.std.proofs.Common.{◌∙◌}
use Rattle.std.proofs.lemmas.List.{take_all}
use Rattle.dm_repo.proofs.Members.{copied_more}
use Rattle.dm_repo.proofs.repo.copy_patches.Goals as goal

pub loop-patch-preserved : goal.loop-patch-preserved
loop-patch-preserved g c = copied_more c.args.patches.now c.loop-patch.patch-index c.patch-item.result c.loop-patch.copies.items c.in_ok-copy_into.field-0 c.loop-patch-test.true c.patch-item.is c.loop-patch.invariant
    c.in_ok-copy_into.ensures c.in_ok-push.ensures.items

pub returns : goal.returns
returns g c = c.loop-patch.invariant ∙ take_all c.loop-patch.patch-index c.args.patches.now c.loop-patch-test.false

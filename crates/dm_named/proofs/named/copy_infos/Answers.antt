use Rattle.std.proofs.Common.{◌∙◌}
use Rattle.dm_tree.proofs.Copies.{copied_more, copied_all}
use Rattle.dm_named.proofs.named.copy_infos.Goals as goal

pub loop-info-preserved : goal.loop-info-preserved
loop-info-preserved g c = copied_more c.args.infos.now c.loop-info.copies.items c.push.new.self.items c.loop-info.info-index c.info-item.result c.in_ok-copy_into.field-0 c.loop-info-test.true
    (c.in_ok-copy_into.ensures ∙ c.info-item.is) c.in_ok-push.ensures.items c.loop-info.invariant

pub returns : goal.returns
returns g c = copied_all c.args.infos.now c.loop-info.copies.items c.loop-info.info-index c.loop-info-test.false c.loop-info.invariant

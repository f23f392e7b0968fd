use Rattle.std.proofs.Common.{◌∙◌}
use Rattle.dm_tree.proofs.Copies.{copied_more, copied_all}
use Rattle.dm_tree.proofs.parts.copy_parts.Goals as goal

pub loop-part-preserved : goal.loop-part-preserved
loop-part-preserved g c = copied_more c.args.parts.now c.loop-part.copies.items c.push.new.self.items c.loop-part.part-index c.part-item.result c.in_ok-copy_into.field-0 c.loop-part-test.true
    (c.in_ok-copy_into.ensures ∙ c.part-item.is) c.in_ok-push.ensures.items c.loop-part.invariant

pub returns : goal.returns
returns g c = copied_all c.args.parts.now c.loop-part.copies.items c.loop-part.part-index c.loop-part-test.false c.loop-part.invariant

use Rattle.dm_tree.proofs.Copies.{mapped_more, mapped_all}
use Rattle.dm_tree.proofs.path.copy_names.Goals as goal

pub loop-part-preserved : goal.loop-part-preserved
loop-part-preserved g c = mapped_more (λ b. b.now) c.args.parts.now c.loop-part.names.items c.push.new.self.items c.loop-part.part-index _ c.in_ok-from_slice.field-0 c.loop-part-test.true
    c.in_ok-from_slice.ensures c.in_ok-push.ensures.items c.loop-part.invariant

pub returns : goal.returns
returns g c = mapped_all (λ b. b.now) c.args.parts.now c.loop-part.names.items c.loop-part.part-index c.loop-part-test.false c.loop-part.invariant

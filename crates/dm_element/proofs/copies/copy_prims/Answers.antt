use Rattle.dm_prim.proofs.ListLemmas.{copied_more, copied_all}
use Rattle.dm_element.proofs.copies.copy_prims.Goals as goal

pub loop-prim-preserved : goal.loop-prim-preserved
loop-prim-preserved g c = copied_more c.args.prims.now c.loop-prim.copy.items c.push.new.self.items c.loop-prim.prim-index c.prim-item.result c.in_ok-copy_into.field-0 c.loop-prim-test.true c.prim-item.is
    c.in_ok-copy_into.ensures.value c.in_ok-push.ensures.items c.loop-prim.invariant

pub returns : goal.returns
returns g c = copied_all c.args.prims.now c.loop-prim.copy.items c.loop-prim.prim-index c.loop-prim-test.false c.loop-prim.invariant

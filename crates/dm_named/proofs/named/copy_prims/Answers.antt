use Rattle.dm_prim.specs.Prims.{prim_of}
use Rattle.dm_named.proofs.NamedLemmas.{copied_more, copied_whole}
use Rattle.dm_named.proofs.named.copy_prims.Goals as goal

pub loop-prim-preserved : goal.loop-prim-preserved
loop-prim-preserved g c =
    copied_more prim_of prim_of c.args.prims.now c.loop-prim.copies.items c.push.new.self.items c.loop-prim.prim-index c.prim-item.result c.in_ok-copy_into.field-0 c.loop-prim-test.true c.prim-item.is c.in_ok-copy_into.ensures.value c.in_ok-push.ensures.items c.loop-prim.invariant

pub returns : goal.returns
returns g c = copied_whole prim_of prim_of c.args.prims.now c.loop-prim.copies.items c.loop-prim.prim-index c.loop-prim-test.false c.loop-prim.invariant

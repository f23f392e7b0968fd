use Rattle.dm_prim.specs.InTurn.{done}
use Rattle.dm_prim.proofs.ApplyLemmas.{one_more, stops_at}
use Rattle.dm_prim.proofs.effect.apply_all.Goals as goal

pub loop-k-init : goal.loop-k-init
loop-k-init g c = done

pub returns-in-Err : goal.returns-in-Err
returns-in-Err g c = stops_at c.args.prims.now c.loop-k.k c.index-prims-k.result c.loop-k-test.true c.index-prims-k.is c.in-Err.fault c.apply.result c.args.tree.now c.loop-k.tree c.apply.new.tree c.in-Err.is c.apply.ensures.change c.apply.ensures.fault c.loop-k.invariant

pub loop-k-preserved : goal.loop-k-preserved
loop-k-preserved g c = one_more c.args.prims.now c.loop-k.k c.index-prims-k.result c.loop-k-test.true c.index-prims-k.is c.in_default.field-0 c.apply.result c.args.tree.now c.loop-k.tree c.apply.new.tree c.in_default.is c.apply.ensures.change c.apply.ensures.fault c.tree_is_lawful.ensures.shallow c.loop-k.invariant

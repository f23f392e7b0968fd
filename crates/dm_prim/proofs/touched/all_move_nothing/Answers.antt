use Rattle.std.proofs.Common.{refl}
use Rattle.dm_prim.specs.Prims.{MovesNothing}
use Rattle.dm_prim.proofs.TouchLemmas.{all_prims_more, all_prims_at, all_prims}
use Rattle.dm_prim.proofs.touched.all_move_nothing.Goals as goal

pub returns-then-not-moves_nothing : goal.returns-then-not-moves_nothing
returns-then-not-moves_nothing g c =
    (λ f. cc, λ h. absurd (cc (c.if-not-moves_nothing.ensures.1 (all_prims_at MovesNothing c.args.prims.now c.loop-prim.prim-index c.prim-item.result c.loop-prim-test.true c.prim-item.is h))))

pub loop-prim-preserved : goal.loop-prim-preserved
loop-prim-preserved g c = all_prims_more MovesNothing c.args.prims.now c.loop-prim.prim-index c.prim-item.result c.loop-prim-test.true c.prim-item.is c.loop-prim.invariant (c.if-not-moves_nothing.ensures.0 refl)

pub returns : goal.returns
returns g c = (λ t. all_prims MovesNothing c.args.prims.now c.loop-prim.prim-index c.loop-prim-test.false c.loop-prim.invariant, λ h. refl)

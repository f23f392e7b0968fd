use Rattle.std.proofs.Common.{refl}
use Rattle.dm_prim.specs.Table.{MovesOutside}
use Rattle.dm_prim.proofs.TouchLemmas.{all_prims_more, all_prims_at, all_prims}
use Rattle.dm_prim.proofs.touched.all_move_outside.Goals as goal

pub returns-then-not-moves_outside : goal.returns-then-not-moves_outside
returns-then-not-moves_outside g c =
    (λ f. cc, λ h. absurd (cc (c.if-not-moves_outside.ensures.1 (all_prims_at MovesOutside c.args.prims.now c.loop-prim.prim-index c.prim-item.result c.loop-prim-test.true c.prim-item.is h))))

pub loop-prim-preserved : goal.loop-prim-preserved
loop-prim-preserved g c = all_prims_more MovesOutside c.args.prims.now c.loop-prim.prim-index c.prim-item.result c.loop-prim-test.true c.prim-item.is c.loop-prim.invariant (c.if-not-moves_outside.ensures.0 refl)

pub returns : goal.returns
returns g c = (λ t. all_prims MovesOutside c.args.prims.now c.loop-prim.prim-index c.loop-prim-test.false c.loop-prim.invariant, λ h. refl)

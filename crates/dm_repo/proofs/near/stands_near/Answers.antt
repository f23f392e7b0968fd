use Rattle.std.proofs.Common.{refl}
use Rattle.dm_prim.proofs.TouchLemmas.{all_prims_more, all_prims}
use Rattle.dm_repo.proofs.Nearness.{IsNearPrim, near_of_all}
use Rattle.dm_repo.proofs.near.stands_near.Goals as goal

pub loop-prim-preserved : goal.loop-prim-preserved
loop-prim-preserved g c =
    all_prims_more (IsNearPrim c.args.tops.now) c.prims-prims.result.now c.loop-prim.prim-index c.prim-item.result c.loop-prim-test.true c.prim-item.is c.loop-prim.invariant
    (let n = c.if-not-is_near.ensures refl in (c.tells_valid.ensures, n.0, n.1))

pub returns : goal.returns
returns g c = λ t. near_of_all c.args.tops.now c.args.patch.now (rw c.prims-prims.ensures at (all_prims (IsNearPrim c.args.tops.now) c.prims-prims.result.now c.loop-prim.prim-index c.loop-prim-test.false c.loop-prim.invariant))

use Rattle.std.proofs.Common.{refl, arith}
use Rattle.dm_prim.proofs.TouchLemmas.{named_at, named_none, not_named_more}
use Rattle.dm_prim.proofs.touched.is_named.Goals as goal

pub loop-prim-init : goal.loop-prim-init
loop-prim-init g c = λ (k, l, e). absurd (omega (arith, l))

pub returns-then-names : goal.returns-then-names
returns-then-names g c = (
  λ t. record { named = named_at c.args.prims.now c.loop-prim.prim-index c.prim-item.result c.loop-prim-test.true c.prim-item.is c.args.path.now (c.if-names.ensures.0 refl) },
  λ h. refl,
)

pub loop-prim-preserved : goal.loop-prim-preserved
loop-prim-preserved g c =
    not_named_more c.args.prims.now c.loop-prim.prim-index c.prim-item.result c.loop-prim-test.true c.prim-item.is c.args.path.now c.loop-prim.invariant
    (λ h. absurd (cc (c.if-names.ensures.1 h)))

pub returns : goal.returns
returns g c = (λ f. cc, λ h. absurd (named_none c.args.prims.now c.loop-prim.prim-index c.args.path.now c.loop-prim-test.false c.loop-prim.invariant h.named))

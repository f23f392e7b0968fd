use Rattle.std.proofs.Common.{refl}
use Rattle.dm_prim.specs.Prims.{prim_of}
use Rattle.dm_agree.proofs.Sames.{same_more, differ, not_as_long, all_same}
use Rattle.dm_agree.proofs.same.same_prims.Goals as goal

pub returns-then-xs-ys : goal.returns-then-xs-ys
returns-then-xs-ys g c = (λ f. cc, λ e. absurd (not_as_long prim_of prim_of c.args.xs.now c.args.ys.now c.if-xs-ys.true e))

pub returns-then-not-same_prim : goal.returns-then-not-same_prim
returns-then-not-same_prim g c = (
  λ f. cc,
  λ e. absurd (differ prim_of prim_of c.args.xs.now c.args.ys.now c.loop-i.i c.index-xs-i.result c.index-ys-i.result c.loop-i-test.true c.if-xs-ys.false c.index-xs-i.is c.index-ys-i.is
      (λ s. cc (c.if-not-same_prim.ensures.1 s)) e),
)

pub loop-i-preserved : goal.loop-i-preserved
loop-i-preserved g c =
    same_more prim_of prim_of c.args.xs.now c.args.ys.now c.loop-i.i c.index-xs-i.result c.index-ys-i.result c.loop-i-test.true c.if-xs-ys.false c.index-xs-i.is c.index-ys-i.is
    (c.if-not-same_prim.ensures.0 refl) c.loop-i.invariant

pub returns : goal.returns
returns g c = (λ t. all_same prim_of prim_of c.args.xs.now c.args.ys.now c.loop-i.i c.loop-i-test.false c.if-xs-ys.false c.loop-i.invariant, λ e. refl)

use Rattle.std.proofs.Common.{sym, refl, subst, take}
use Rattle.std.proofs.lemmas.List.{take_all}
use Rattle.dm_prim.specs.Prims.{prims_of}
use Rattle.dm_prim.specs.Touch.{Touches}
use Rattle.dm_prim.proofs.ListLemmas.{count_of, prims_more}
use Rattle.dm_prim.proofs.TouchLemmas.{touches_none}
use Rattle.dm_prim.proofs.touched.touch.Goals as goal

pub loop-prim-init : goal.loop-prim-init
loop-prim-init g c = touches_none c.new.ensures.items refl refl

pub loop-prim-preserved : goal.loop-prim-preserved
loop-prim-preserved g c =
    let prims = c.args.prims.now in
    let i = c.loop-prim.prim-index in
    let p = c.prim-item.result in
    subst (λ ps. Touches ps c.add.new.self) (sym (prims_more prims i p c.loop-prim-test.true c.prim-item.is)) (c.in_ok-add.ensures (take i (prims_of prims)) c.loop-prim.invariant)

pub returns : goal.returns
returns g c = subst (λ ps. Touches ps c.loop-prim.touched) (take_all c.loop-prim.prim-index (prims_of c.args.prims.now) (rw (count_of c.args.prims.now) c.loop-prim-test.false)) c.loop-prim.invariant

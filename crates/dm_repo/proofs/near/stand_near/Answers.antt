use Rattle.std.proofs.Common.{◌∷◌, ◌++◌, [], ap, sym, refl, ◌∙◌, subst, take, All}
use Rattle.std.proofs.lemmas.List.{take_more, take_all}
use Rattle.dm_repo.specs.Aside.{StandsNear}
use Rattle.dm_prim.proofs.TouchLemmas.{all_with}
use Rattle.dm_repo.proofs.near.stand_near.Goals as goal

pub loop-patch-preserved : goal.loop-patch-preserved
loop-patch-preserved g c =
    let P = StandsNear c.args.tops.now in
    let list = c.args.list.now in
    let patch = c.patch-item.result in
    let i = c.loop-patch.patch-index in
    subst (All P) (sym (take_more list i patch c.loop-patch-test.true ∙ ap (λ z. take i list ++ z ∷ []) (sym c.patch-item.is)))
    ((all_with P (take i list) patch).1 (c.loop-patch.invariant, c.if-not-stands_near.ensures refl))

pub returns : goal.returns
returns g c = λ t. subst (All (StandsNear c.args.tops.now)) (take_all c.loop-patch.patch-index c.args.list.now c.loop-patch-test.false) c.loop-patch.invariant

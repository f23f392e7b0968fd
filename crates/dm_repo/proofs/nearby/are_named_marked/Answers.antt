use Rattle.std.proofs.Common.{◌∷◌, ◌++◌, [], ap, sym, refl, ◌∙◌, subst, take, All}
use Rattle.std.proofs.lemmas.List.{take_more, take_all}
use Rattle.dm_repo.specs.Nearby.{IsNamedMarked}
use Rattle.dm_prim.proofs.TouchLemmas.{all_with}
use Rattle.dm_repo.proofs.Telling.{named_all}
use Rattle.dm_repo.proofs.nearby.are_named_marked.Goals as goal

pub loop-info-preserved : goal.loop-info-preserved
loop-info-preserved g c =
    let P = IsNamedMarked c.args.repo.now.patches c.args.marks.now in
    let infos = c.args.infos.now in
    let info = c.info-item.result in
    let i = c.loop-info.info-index in
    subst (All P) (sym (take_more infos i info c.loop-info-test.true ∙ ap (λ z. take i infos ++ z ∷ []) (sym c.info-item.is)))
    ((all_with P (take i infos) info).1 (c.loop-info.invariant, c.if-not-is_named_marked.ensures refl))

pub returns : goal.returns
returns g c = λ t. named_all c.args.repo.now.patches c.args.marks.now c.args.infos.now (subst (All (IsNamedMarked c.args.repo.now.patches c.args.marks.now)) (take_all c.loop-info.info-index c.args.infos.now c.loop-info-test.false) c.loop-info.invariant)

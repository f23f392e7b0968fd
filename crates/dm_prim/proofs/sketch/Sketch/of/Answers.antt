use Rattle.std.proofs.Common.{◌∷◌, ◌++◌, [], ap, sym, ◌∙◌, subst, take}
use Rattle.std.proofs.lemmas.List.{take_more, take_all}
use Rattle.dm_prim.specs.Sketches.{Covers}
use Rattle.dm_prim.proofs.SketchLemmas.{covers_more}
use Rattle.dm_prim.proofs.sketch.Sketch.of.Goals as goal

pub loop-path-preserved : goal.loop-path-preserved
loop-path-preserved g c =
    let paths = c.args.paths.now in
    let path = c.path-item.result in
    let i = c.loop-path.path-index in
    subst (λ fs. Covers fs c.add.new.self) (sym (take_more paths i path c.loop-path-test.true ∙ ap (λ z. take i paths ++ z ∷ []) (sym c.path-item.is)))
    (covers_more c.add.ensures c.loop-path.invariant)

pub returns : goal.returns
returns g c = subst (λ fs. Covers fs c.loop-path.sketch) (take_all c.loop-path.path-index c.args.paths.now c.loop-path-test.false) c.loop-path.invariant

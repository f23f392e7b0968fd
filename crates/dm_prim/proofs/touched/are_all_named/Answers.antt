use Rattle.std.proofs.Common.{◌∷◌, ◌++◌, [], ap, sym, refl, ◌∙◌, subst, take, All}
use Rattle.std.proofs.lemmas.List.{take_more, take_all}
use Rattle.dm_prim.specs.Prims.{prims_of}
use Rattle.dm_prim.specs.Touch.{IsNamedAmong}
use Rattle.dm_prim.proofs.TouchLemmas.{all_with}
use Rattle.dm_prim.proofs.touched.are_all_named.Goals as goal

pub returns-then-not-is_named : goal.returns-then-not-is_named
returns-then-not-is_named g c =
    (λ f. cc, λ h. absurd (cc (c.if-not-is_named.ensures.1 (rw c.path-item.is (h c.loop-path.path-index c.path-item.result c.loop-path-test.true)))))

pub loop-path-preserved : goal.loop-path-preserved
loop-path-preserved g c =
    let named = IsNamedAmong (prims_of c.args.prims.now) in
    let paths = c.args.paths.now in
    let path = c.path-item.result in
    subst (All named) (sym (take_more paths c.loop-path.path-index path c.loop-path-test.true ∙ ap (λ z. take c.loop-path.path-index paths ++ z ∷ []) (sym c.path-item.is)))
    ((all_with named (take c.loop-path.path-index paths) path).1 (c.loop-path.invariant, c.if-not-is_named.ensures.0 refl))

pub returns : goal.returns
returns g c = (λ t. subst (All (IsNamedAmong (prims_of c.args.prims.now))) (take_all c.loop-path.path-index c.args.paths.now c.loop-path-test.false) c.loop-path.invariant, λ h. refl)

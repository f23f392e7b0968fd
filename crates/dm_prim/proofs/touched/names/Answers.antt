use Rattle.std.proofs.Common.{refl, subst, ◌∷◌, [], ◌∙◌, sym}
use Rattle.dm_prim.specs.Prims.{prim_of, path_of}
use Rattle.dm_prim.specs.Touch.{IsTouched}
use Rattle.dm_tree.proofs.Fronts.{refuted}
use Rattle.dm_prim.proofs.TableLemmas.{is_work}
use Rattle.dm_prim.proofs.TouchLemmas.{names_none, names_first, names_work, names_move}
use Rattle.dm_prim.proofs.touched.names.Goals as goal

pub returns-then-not-names_a_path : goal.returns-then-not-names_a_path
returns-then-not-names_a_path g c = (λ f. cc, λ h. absurd (names_none (prim_of c.args.prim.now) (refuted c.if-not-names_a_path.ensures) c.args.path.now h))

pub returns-then-same : goal.returns-then-same
returns-then-same g c =
    let p = prim_of c.args.prim.now in
    (λ t. subst (IsTouched (p ∷ [])) (sym c.path.ensures ∙ c.if-same.ensures.0 refl) (names_first p (c.if-not-names_a_path.ensures.0 refl)), λ h. refl)

pub returns-in-Some : goal.returns-in-Some
returns-in-Some g c =
    let p = prim_of c.args.prim.now in
    let m = names_move p (path_of p) c.in-Some.target.now c.in-Some.ensures c.args.path.now (λ e. absurd (cc (c.if-same.ensures.1 (c.path.ensures ∙ e)))) in
    (λ t. m.0 (c.same-in-Some.ensures.0 t), λ h. c.same-in-Some.ensures.1 (m.1 h))

pub returns-in-None : goal.returns-in-None
returns-in-None g c =
    let p = prim_of c.args.prim.now in
    (λ f. cc, λ h. absurd (cc (c.if-same.ensures.1 (c.path.ensures ∙ (names_work p (is_work p (c.if-not-names_a_path.ensures.0 refl) c.in-None.ensures) c.args.path.now).1 h))))

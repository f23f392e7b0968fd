use Rattle.std.proofs.Common.{refl}
use Rattle.dm_prim.specs.Prims.{prim_of, path_of}
use Rattle.dm_tree.proofs.Fronts.{refuted}
use Rattle.dm_prim.proofs.TableLemmas.{is_work}
use Rattle.dm_prim.proofs.TouchLemmas.{among_none, among_work, among_first, among_move}
use Rattle.dm_prim.proofs.touched.names_among.Goals as goal

pub returns-then-not-names_a_path : goal.returns-then-not-names_a_path
returns-then-not-names_a_path g c = (λ t. among_none c.args.paths.now (prim_of c.args.prim.now) (refuted c.if-not-names_a_path.ensures), λ h. refl)

pub returns-then-not-is_among : goal.returns-then-not-is_among
returns-then-not-is_among g c = (λ f. cc, λ h. absurd (cc (c.if-not-is_among.ensures.1 (rw c.path.ensures (among_first c.args.paths.now (prim_of c.args.prim.now) (c.if-not-names_a_path.ensures.0 refl) h)))))

pub returns-in-Some : goal.returns-in-Some
returns-in-Some g c =
    let p = prim_of c.args.prim.now in
    let m = among_move c.args.paths.now p (path_of p) c.in-Some.target.now c.in-Some.ensures (rw c.path.ensures at (c.if-not-is_among.ensures.0 refl)) in
    (λ t. m.0 (c.is_among-in-Some.ensures.0 t), λ h. c.is_among-in-Some.ensures.1 (m.1 h))

pub returns-in-None : goal.returns-in-None
returns-in-None g c =
    let p = prim_of c.args.prim.now in
    (λ t. among_work c.args.paths.now p (is_work p (c.if-not-names_a_path.ensures.0 refl) c.in-None.ensures) (rw c.path.ensures at (c.if-not-is_among.ensures.0 refl)), λ h. cc)

use Rattle.std.proofs.Common.{◌≡◌, sym, ap, ◌∙◌}
use Rattle.std.proofs.lemmas.Bool.{eqb-true}
use Rattle.dm_prim.specs.Prims.{prims_of}
use Rattle.dm_send.specs.Undoing.{prims_in}
use Rattle.dm_send.proofs.Left.{empty_of}
use Rattle.dm_send.proofs.Undone.{no_inverses, undoes}
use Rattle.dm_send.proofs.undoing.undo_of.Goals as goal

pub returns-then-is_empty-clause-fault : goal.returns-then-is_empty-clause-fault
returns-then-is_empty-clause-fault g c =
    let p = c.in_ok-parting.parting in
    let zero : p.bound.len ≡ 0 = eqb-true p.bound.len 0 (sym c.is_empty.ensures ∙ c.if-not-is_empty.false) in
    let none = empty_of p.bound.items (sym p.bound.ok.0 ∙ zero) in
    let q = c.in_ok-prims.prims in
    let zero2 : q.len ≡ 0 = eqb-true q.len 0 (sym c.is_empty-2.ensures ∙ c.if-is_empty.true) in
    let nothing = empty_of q.items (sym q.ok.0 ∙ zero2) in
    λ base. (p.stay.items, p.go.items, rw none at c.in_ok-parting.ensures, no_inverses (prims_in p.go.items) (sym c.in_ok-prims.ensures ∙ ap prims_of nothing))

pub returns-clause-undoes : goal.returns-clause-undoes
returns-clause-undoes g c =
    let p = c.in_ok-parting.parting in
    let zero : p.bound.len ≡ 0 = eqb-true p.bound.len 0 (sym c.is_empty.ensures ∙ c.if-not-is_empty.false) in
    let none = empty_of p.bound.items (sym p.bound.ok.0 ∙ zero) in
    rw (c.new-undo.ensures, c.new.ensures.items, c.in_ok-prims.ensures)
    (undoes c.args.repo.now.patches c.args.chosen.now c.args.name p.stay.items p.go.items c.is_lawful.ensures (rw none at c.in_ok-parting.ensures))

use Rattle.std.proofs.Common.{subst}
use Rattle.dm_tree.specs.Validity.{IsValidPath}
use Rattle.dm_tree.proofs.Fronts.{refuted}
use Rattle.dm_prim.specs.Prims.{prim_of}
use Rattle.dm_prim.proofs.TableLemmas.{no_work_move, long_work_move, moved_before}
use Rattle.dm_prim.proofs.pair.commute_work_move.Goals as goal

pub returns-then-not-may_move_after : goal.returns-then-not-may_move_after
returns-then-not-may_move_after g c = no_work_move (prim_of c.args.p) c.args.a c.args.b c.requires (refuted c.if-not-may_move_after.ensures)

pub returns-in_default : goal.returns-in_default
returns-in_default g c = long_work_move (prim_of c.args.p) c.args.a c.args.b c.requires (rw c.in_default.is at c.in_ok-moved.ensures.value)

pub returns : goal.returns
returns g c = let m = rw c.in-Some.is at c.in_ok-moved.ensures.value in
    moved_before (prim_of c.args.p) c.args.a c.args.b c.requires (prim_of c.in-Some.moved) m.0
    (c.may_move_after.ensures.0 c.if-not-may_move_after.false) c.in_ok-moved.ensures.valid m.1
    (subst IsValidPath c.a.view_is c.a.invariant) (subst IsValidPath c.b.view_is c.b.invariant)

use Rattle.std.proofs.Common.{subst}
use Rattle.dm_tree.specs.Validity.{IsValidPath}
use Rattle.dm_tree.proofs.Fronts.{refuted}
use Rattle.dm_prim.proofs.TableLemmas.{no_move_both, both_moved, long_from, long_to, long_first_from, long_first_to}
use Rattle.dm_prim.proofs.pair.commute_moves.Goals as goal

pub returns-then-not-may_move_both : goal.returns-then-not-may_move_both
returns-then-not-may_move_both g c = no_move_both c.args.a c.args.b c.args.c c.args.d (refuted c.if-not-may_move_both.ensures)

pub returns-in_default : goal.returns-in_default
returns-in_default g c = long_from c.args.a c.args.b c.args.c c.args.d (rw c.in_default.is at c.in_ok-from.ensures)

pub returns-in_default-2 : goal.returns-in_default-2
returns-in_default-2 g c = long_to c.args.a c.args.b c.args.c c.args.d (rw c.in_default-2.is at c.in_ok-to.ensures)

pub returns-in_default-3 : goal.returns-in_default-3
returns-in_default-3 g c = long_first_from c.args.a c.args.b c.args.c c.args.d c.in-Some.from c.in-Some-2.to
    (rw c.in-Some.is at c.in_ok-from.ensures) (rw c.in-Some-2.is at c.in_ok-to.ensures) (rw c.in_default-3.is at c.in_ok-first_from.ensures)

pub returns-in_default-4 : goal.returns-in_default-4
returns-in_default-4 g c = long_first_to c.args.a c.args.b c.args.c c.args.d c.in-Some.from c.in-Some-2.to
    (rw c.in-Some.is at c.in_ok-from.ensures) (rw c.in-Some-2.is at c.in_ok-to.ensures) (rw c.in_default-4.is at c.in_ok-first_to.ensures)

pub returns : goal.returns
returns g c = rw (c.moving-second.ensures.value, c.moving-first.ensures.value)
    (both_moved c.args.a c.args.b c.args.c c.args.d c.in-Some.from c.in-Some-2.to c.in-Some-3.first_from c.in-Some-4.first_to
    (rw c.in-Some.is at c.in_ok-from.ensures) (rw c.in-Some-2.is at c.in_ok-to.ensures)
    (rw c.in-Some-3.is at c.in_ok-first_from.ensures) (rw c.in-Some-4.is at c.in_ok-first_to.ensures) (c.may_move_both.ensures.0 c.if-not-may_move_both.false)
    (subst IsValidPath c.a.view_is c.a.invariant, subst IsValidPath c.b.view_is c.b.invariant) (subst IsValidPath c.c.view_is c.c.invariant, subst IsValidPath c.d.view_is c.d.invariant)
    c.moving-second.ensures.valid c.moving-first.ensures.valid)

use Rattle.std.proofs.Common.{◌≤◌, ◌+◌, ◌-◌, sym, arith, length, refl}
use Rattle.dm_tree.specs.Children.{look}
use Rattle.dm_tree.specs.Nested.{entry_of}
use Rattle.dm_tree.specs.Walks.{part_of}
use Rattle.dm_tree.proofs.Fronts.{refuted}
use Rattle.dm_tree.proofs.Renames.{fits_by, overflows_by, part_true, part_false, refused_by, there_by}
use Rattle.dm_tree.proofs.rename.rename_allowed.Goals as goal

pub returns-then-begins : goal.returns-then-begins
returns-then-begins g c = (there_by (entry_of c.in-Some.body.now) (look c.args.children.now c.args.from.now) c.in-Some.ensures.value, c.if-begins.ensures.0 refl)

pub returns-in-Some-add_refused : goal.returns-in-Some-add_refused
returns-in-Some-add_refused g c = refused_by (look c.args.children.now) c.args.from.now c.args.to.now (there_by (entry_of c.in-Some.body.now) (look c.args.children.now c.args.from.now) c.in-Some.ensures.value)
    (refuted c.if-begins.ensures) c.in-Some-add_refused.fault c.in-Some-add_refused.ensures

pub returns-then-not-is_short : goal.returns-then-not-is_short
returns-then-not-is_short g c =
    let m = look c.args.children.now in
    let a = c.args.from.now in
    let b = c.args.to.now in
    let n = 32 - length b in (
      record { present = there_by (entry_of c.in-Some.body.now) (m a) c.in-Some.ensures.value; not_into = refuted c.if-begins.ensures; parent_is = c.in_default-add_refused.ensures.0; absent = c.in_default-add_refused.ensures.1 },
      overflows_by m a b (part_of c.in-Some.body.now) n c.in-Some.ensures.part (omega arith) (part_false c.in-Some.body.now n (sym c.if-not-is_short.ensures)),
    )

pub returns : goal.returns
returns g c =
    let m = look c.args.children.now in
    let a = c.args.from.now in
    let b = c.args.to.now in
    let n = 32 - length b in
    let le : n + length b ≤ 32 = omega (arith, c.requires.not_deep) in (
      record { present = there_by (entry_of c.in-Some.body.now) (m a) c.in-Some.ensures.value; not_into = refuted c.if-begins.ensures; parent_is = c.in_default-add_refused.ensures.0; absent = c.in_default-add_refused.ensures.1 },
      fits_by m a b (part_of c.in-Some.body.now) n c.in-Some.ensures.part le (part_true c.in-Some.body.now n (sym c.if-not-is_short.ensures)),
    )

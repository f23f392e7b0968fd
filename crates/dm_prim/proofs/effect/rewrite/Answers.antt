use Rattle.std.proofs.Common.{refl}
use Rattle.std.specs.FinMap as map
use Rattle.dm_tree.proofs.Fronts.{refuted}
use Rattle.dm_prim.proofs.ApplyLemmas.{refuses_count, refuses_as, replaces, replaces_as}
use Rattle.dm_prim.proofs.effect.rewrite.Goals as goal

pub returns-then-has_other_count-clause-change : goal.returns-then-has_other_count-clause-change
returns-then-has_other_count-clause-change g c =
    let other = rw (c.path.ensures.value, c.len.ensures.value, c.old.ensures) at (c.if-has_other_count.ensures.0 refl) in
    refuses_count c.args.tree.now c.args.tree.now c.args.binary.now.path c.args.binary.now.old c.args.binary.now.new other refl (Unit {0})

pub returns-then-has_other_count-clause-fault : goal.returns-then-has_other_count-clause-fault
returns-then-has_other_count-clause-fault g c =
    let other = rw (c.path.ensures.value, c.len.ensures.value, c.old.ensures) at (c.if-has_other_count.ensures.0 refl) in
    refuses_as c.args.tree.now c.args.tree.now c.args.binary.now.path c.args.binary.now.old c.args.binary.now.new other (Unit {0})

pub returns-clause-change : goal.returns-clause-change
returns-clause-change g c =
    let same = rw (c.path.ensures.value, c.len.ensures.value, c.old.ensures) at (refuted c.if-has_other_count.ensures) in
    replaces c.args.tree.now c.edit.new.self c.args.binary.now.path c.args.binary.now.old c.args.binary.now.new c.edit.result c.path.ensures.valid.1.1 same
    (rw (c.path-2.ensures.value, c.old-2.ensures, c.new_lines.ensures) at c.edit.ensures.fault)
    (rw (c.path-2.ensures.value, c.old-2.ensures, c.new_lines.ensures) at c.edit.ensures.ok) c.edit.ensures.err

pub returns-clause-fault : goal.returns-clause-fault
returns-clause-fault g c =
    let same = rw (c.path.ensures.value, c.len.ensures.value, c.old.ensures) at (refuted c.if-has_other_count.ensures) in
    replaces_as (map.get c.args.tree.now) c.args.binary.now.path c.args.binary.now.old c.args.binary.now.new c.path.ensures.valid.1.1 same c.edit.result
    (rw (c.path-2.ensures.value, c.old-2.ensures, c.new_lines.ensures) at c.edit.ensures.fault)

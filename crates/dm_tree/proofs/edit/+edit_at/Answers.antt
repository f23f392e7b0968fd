use Rattle.std.proofs.Common.{sym, ap, ◌∙◌, subst, ◌≡◌, ◌<◌, length, set, Some, arith}
use Rattle.std.specs.List.{splice}
use Rattle.dm_tree.specs.Trees.{File}
use Rattle.dm_tree.specs.Children.{look, IsRising}
use Rattle.dm_tree.specs.Nested.{IsValid}
use Rattle.dm_tree.specs.Walks.{CanSplice}
use Rattle.dm_tree.proofs.Children.{rising-set}
use Rattle.dm_tree.proofs.Adds.{dir_child, leaf_child, at_name, set_same, seen}
use Rattle.dm_tree.proofs.Steps.{no_rest, some_rest, on_ok, on_err, at_of, opened, look_gap, look_dir, look_text}
use Rattle.dm_tree.proofs.Edits.{look_here, spliced_text, spliced_dir, still_lines}
use Rattle.dm_tree.proofs.Plain.{none_some}
use Rattle.dm_tree.proofs.edit.+edit_at.Goals as goal

pub unreachable-requires-in_default-place : goal.unreachable-requires-in_default-place
unreachable-requires-in_default-place g t c =
    subst (λ x. CanSplice x c.args.start c.args.end c.args.fresh.now) (look_gap c.in-Some.name.now _ c.args.children.now.items _ c.in_default-place.field-0 c.args.path.now c.in-Some.rest.now c.requires.rising c.as_slice.ensures c.deref.ensures.value c.in_default-place.ensures.absent c.in-Some.ensures.cases.0) c.requires.may

pub unreachable-requires-then-is_empty : goal.unreachable-requires-then-is_empty
unreachable-requires-then-is_empty g t c =
    let ks = c.args.children.now.items in
    let name = c.in-Some.name.now in
    let view : dir_child c.child.inside.name c.in-Children.inner.items ≡ c.index_mut-child.result.now = rw c.in-Children.is at c.child.view_is in
    let o = opened name _ ks _ c.in-Ok.i c.index_mut-child.result.now c.child.inside.name c.in-Children.inner.items c.as_slice.ensures c.deref.ensures.value c.in-Ok.ensures.found c.index_mut-child.ensures.value view in
    let none = no_rest c.in-Some.rest.now (sym c.is_empty.ensures ∙ c.if-is_empty.true) in
    subst (λ x. CanSplice x c.args.start c.args.end c.args.fresh.now) (look_dir name ks c.in-Ok.i c.child.inside.name c.in-Children.inner.items c.args.path.now c.in-Some.rest.now c.requires.rising o c.in-Some.ensures.cases.0 ∙ ap (look c.in-Children.inner.items) none) c.requires.may

pub edit_at-requires : goal.edit_at-requires
edit_at-requires g t c κs within =
    let ks = c.args.children.now.items in
    let name = c.in-Some.name.now in
    let view : dir_child c.child.inside.name c.in-Children.inner.items ≡ c.index_mut-child.result.now = rw c.in-Children.is at c.child.view_is in
    let o = opened name _ ks _ c.in-Ok.i c.index_mut-child.result.now c.child.inside.name c.in-Children.inner.items c.as_slice.ensures c.deref.ensures.value c.in-Ok.ensures.found c.index_mut-child.ensures.value view in
    let may = subst (λ x. CanSplice x c.args.start c.args.end c.args.fresh.now) (look_dir name ks c.in-Ok.i c.child.inside.name c.in-Children.inner.items c.args.path.now c.in-Some.rest.now c.requires.rising o c.in-Some.ensures.cases.0) c.requires.may in
    let valid : IsRising c.in-Children.inner.items = subst IsValid c.in-Children.is c.child.invariant in
    let some = some_rest c.in-Some.rest.now (sym c.is_empty.ensures ∙ c.if-is_empty.false) in
    let less : length c.in-Some.rest.now < length c.args.path.now = omega (arith, c.in-Some.ensures.cases.1) in
    (omega (arith, less, c.decreases), (within.0, (within.1.0, (within.1.1, (some, (valid, (may, c.requires.plain)))))))

pub unreachable-requires-then-not-is_empty : goal.unreachable-requires-then-not-is_empty
unreachable-requires-then-not-is_empty g t c =
    let some = some_rest c.in-Some.rest.now (sym c.is_empty-in-Text.ensures ∙ c.if-not-is_empty.true) in
    let view : leaf_child c.child.inside.name (File c.in-Text.file) ≡ c.index_mut-child.result.now = rw c.in-Text.is at c.child.view_is in
    subst (λ x. CanSplice x c.args.start c.args.end c.args.fresh.now) (look_text c.in-Some.name.now _ c.args.children.now.items _ c.in-Ok.i c.index_mut-child.result.now c.child.inside.name c.in-Text.file c.args.path.now c.in-Some.rest.now c.requires.rising c.as_slice.ensures c.deref.ensures.value c.in-Ok.ensures.found c.index_mut-child.ensures.value view c.in-Some.ensures.cases.0 some) c.requires.may

pub splice-requires : goal.splice-requires
splice-requires g t c =
    let ks = c.args.children.now.items in
    let name = c.in-Some.name.now in
    let at = at_of name _ ks _ c.in-Ok.i c.as_slice.ensures c.deref.ensures.value c.in-Ok.ensures.found in
    let view : leaf_child c.child.inside.name (File c.in-Text.file) ≡ c.index_mut-child.result.now = rw c.in-Text.is at c.child.view_is in
    let seen_file = seen name ks c.in-Ok.i c.index_mut-child.result.now (leaf_child c.child.inside.name (File c.in-Text.file)) at c.index_mut-child.ensures.value view in
    let none = no_rest c.in-Some.rest.now (sym c.is_empty-in-Text.ensures ∙ c.if-not-is_empty.false) in
    let may : CanSplice (Some (File c.in-Text.file)) c.args.start c.args.end c.args.fresh.now = subst (λ x. CanSplice x c.args.start c.args.end c.args.fresh.now) (look_here name ks c.child.inside.name c.in-Text.file c.args.path.now c.in-Some.rest.now c.requires.rising seen_file c.in-Some.ensures.cases.0 none) c.requires.may in
    record { order = may.0; within = may.1.0; plain = c.requires.plain }

pub invariant_of-child-in-Text : goal.invariant_of-child-in-Text
invariant_of-child-in-Text g t c =
    let ks = c.args.children.now.items in
    let name = c.in-Some.name.now in
    let at = at_of name _ ks _ c.in-Ok.i c.as_slice.ensures c.deref.ensures.value c.in-Ok.ensures.found in
    let view : leaf_child c.child.inside.name (File c.in-Text.file) ≡ c.index_mut-child.result.now = rw c.in-Text.is at c.child.view_is in
    let seen_file = seen name ks c.in-Ok.i c.index_mut-child.result.now (leaf_child c.child.inside.name (File c.in-Text.file)) at c.index_mut-child.ensures.value view in
    let none = no_rest c.in-Some.rest.now (sym c.is_empty-in-Text.ensures ∙ c.if-not-is_empty.false) in
    let may : CanSplice (Some (File c.in-Text.file)) c.args.start c.args.end c.args.fresh.now = subst (λ x. CanSplice x c.args.start c.args.end c.args.fresh.now) (look_here name ks c.child.inside.name c.in-Text.file c.args.path.now c.in-Some.rest.now c.requires.rising seen_file c.in-Some.ensures.cases.0 none) c.requires.may in
    let had : 0 < length c.in-Text.file = subst IsValid c.in-Text.is c.child.invariant in
    still_lines c.splice.result c.in-Text.file c.splice.new.self (splice c.in-Text.file c.args.start c.args.end c.args.fresh.now) c.splice.ensures.ok c.splice.ensures.err may.1.1 had

pub returns-else-is_empty-clause-rising : goal.returns-else-is_empty-clause-rising
returns-else-is_empty-clause-rising g t c =
    let ks = c.args.children.now.items in
    let name = c.in-Some.name.now in
    let view : dir_child c.child.inside.name c.in-Children.inner.items ≡ c.index_mut-child.result.now = rw c.in-Children.is at c.child.view_is in
    let o = opened name _ ks _ c.in-Ok.i c.index_mut-child.result.now c.child.inside.name c.in-Children.inner.items c.as_slice.ensures c.deref.ensures.value c.in-Ok.ensures.found c.index_mut-child.ensures.value view in
    rising-set name ks c.in-Ok.i (dir_child c.child.inside.name c.edit_at.new.children.items) c.requires.rising o.at o.same

pub returns-else-is_empty-clause-ok : goal.returns-else-is_empty-clause-ok
returns-else-is_empty-clause-ok g t c =
    let ks = c.args.children.now.items in
    let name = c.in-Some.name.now in
    let view : dir_child c.child.inside.name c.in-Children.inner.items ≡ c.index_mut-child.result.now = rw c.in-Children.is at c.child.view_is in
    let o = opened name _ ks _ c.in-Ok.i c.index_mut-child.result.now c.child.inside.name c.in-Children.inner.items c.as_slice.ensures c.deref.ensures.value c.in-Ok.ensures.found c.index_mut-child.ensures.value view in
    on_ok c.edit_at.result _ _ (λ s. spliced_dir ks c.args.path.now c.args.start c.args.end c.args.fresh.now name c.in-Ok.i c.child.inside.name c.in-Children.inner.items c.edit_at.new.children.items c.in-Some.rest.now c.requires.rising o c.in-Some.ensures.cases.0 s) c.edit_at.ensures.ok

pub returns-else-is_empty-clause-err : goal.returns-else-is_empty-clause-err
returns-else-is_empty-clause-err g t c =
    let ks = c.args.children.now.items in
    let view : dir_child c.child.inside.name c.in-Children.inner.items ≡ c.index_mut-child.result.now = rw c.in-Children.is at c.child.view_is in
    on_err c.edit_at.result _ _ (λ s. ap (λ l. set ks c.in-Ok.i (dir_child c.child.inside.name l)) s ∙ ap (set ks c.in-Ok.i) view ∙ set_same ks c.in-Ok.i c.index_mut-child.result.now c.index_mut-child.ensures.value) c.edit_at.ensures.err

pub returns-else-not-is_empty-clause-rising : goal.returns-else-not-is_empty-clause-rising
returns-else-not-is_empty-clause-rising g t c =
    let ks = c.args.children.now.items in
    let name = c.in-Some.name.now in
    let at = at_of name _ ks _ c.in-Ok.i c.as_slice.ensures c.deref.ensures.value c.in-Ok.ensures.found in
    let view : leaf_child c.child.inside.name (File c.in-Text.file) ≡ c.index_mut-child.result.now = rw c.in-Text.is at c.child.view_is in
    let same : c.child.inside.name ≡ name = ap (λ k. k.name) (view ∙ c.index_mut-child.ensures.value) ∙ at_name name ks c.in-Ok.i c.index_mut-child.result.now at in
    rising-set name ks c.in-Ok.i (leaf_child c.child.inside.name (File c.splice.new.self)) c.requires.rising at same

pub returns-else-not-is_empty-clause-ok : goal.returns-else-not-is_empty-clause-ok
returns-else-not-is_empty-clause-ok g t c =
    let ks = c.args.children.now.items in
    let name = c.in-Some.name.now in
    let at = at_of name _ ks _ c.in-Ok.i c.as_slice.ensures c.deref.ensures.value c.in-Ok.ensures.found in
    let view : leaf_child c.child.inside.name (File c.in-Text.file) ≡ c.index_mut-child.result.now = rw c.in-Text.is at c.child.view_is in
    let same : c.child.inside.name ≡ name = ap (λ k. k.name) (view ∙ c.index_mut-child.ensures.value) ∙ at_name name ks c.in-Ok.i c.index_mut-child.result.now at in
    let seen_file = seen name ks c.in-Ok.i c.index_mut-child.result.now (leaf_child c.child.inside.name (File c.in-Text.file)) at c.index_mut-child.ensures.value view in
    let none = no_rest c.in-Some.rest.now (sym c.is_empty-in-Text.ensures ∙ c.if-not-is_empty.false) in
    on_ok c.splice.result _ _ (λ e. spliced_text ks c.args.path.now c.args.start c.args.end c.args.fresh.now name c.in-Ok.i c.child.inside.name c.in-Text.file c.splice.new.self c.in-Some.rest.now c.requires.rising at same seen_file c.in-Some.ensures.cases.0 none e) c.splice.ensures.ok

pub returns-else-not-is_empty-clause-err : goal.returns-else-not-is_empty-clause-err
returns-else-not-is_empty-clause-err g t c =
    let ks = c.args.children.now.items in
    let view : leaf_child c.child.inside.name (File c.in-Text.file) ≡ c.index_mut-child.result.now = rw c.in-Text.is at c.child.view_is in
    on_err c.splice.result _ _ (λ s. ap (λ l. set ks c.in-Ok.i (leaf_child c.child.inside.name (File l))) s ∙ ap (set ks c.in-Ok.i) view ∙ set_same ks c.in-Ok.i c.index_mut-child.result.now c.index_mut-child.ensures.value) c.splice.ensures.err

pub place-requires : goal.place-requires
place-requires g t c = subst IsRising (sym c.deref.ensures.value) c.requires.rising

pub index_mut-child-requires : goal.index_mut-child-requires
index_mut-child-requires g t c = subst (λ n. c.in-Ok.i < n) c.deref.ensures.len c.in-Ok.ensures.range

pub unreachable-requires : goal.unreachable-requires
unreachable-requires g t c = none_some _ c.in_default.ensures.cases c.requires.nonempty

pub invariant_of-child : goal.invariant_of-child
invariant_of-child g t c = subst IsValid c.in-Children.is c.child.invariant

pub invariant_of-child-in-Children : goal.invariant_of-child-in-Children
invariant_of-child-in-Children g t c = c.edit_at.ensures.rising

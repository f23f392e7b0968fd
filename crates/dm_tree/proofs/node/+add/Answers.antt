use Rattle.std.proofs.Common.{refl, sym, ap, ◌∙◌, subst, ◌≡◌, ◌<◌, ◌≤◌, ◌∷◌, [], length, Some, None, set, arith}
use Rattle.std.specs.List.{insert}
use Rattle.dm_tree.specs.Trees.{Dir, File}
use Rattle.dm_tree.specs.Children.{Child, IsRising, look}
use Rattle.dm_tree.specs.Nested.{IsValid}
use Rattle.dm_tree.specs.Walks.{SetsAt, leaf_entry}
use Rattle.dm_tree.proofs.Children.{child_at-at, child_at-gap, rising-set, rising-insert}
use Rattle.dm_tree.proofs.Adds.{dir_child, leaf_child, at_name, set_same, seen, parent_dir, parent_file, parent_absent, child_here, sets_dir, sets_leaf}
use Rattle.dm_tree.proofs.Steps.{no_rest, some_rest, on_ok, on_err, at_of, gap_of, opened, look_dir}
use Rattle.dm_tree.proofs.Plain.{if_err, if_ok_err, none_some}
use Rattle.dm_tree.proofs.node.+add.Goals as goal

pub unreachable-requires-then-is_empty : goal.unreachable-requires-then-is_empty
unreachable-requires-then-is_empty g t c =
    let name = c.in-Some.name.now in
    let ks = c.args.children.now.items in
    let at = at_of name _ ks _ c.in-Ok.i c.as_slice.ensures c.deref.ensures.value c.in-Ok.ensures.found in
    let none = no_rest c.in-Some.rest.now (sym c.is_empty.ensures ∙ c.if-is_empty.true) in
    let d : Child = leaf_child [] Dir in
    child_here ks c.requires.rising name _ (child_at-at name ks c.in-Ok.i d at) c.args.path.now c.in-Some.rest.now c.in-Some.ensures.cases.0 none c.requires.absent

pub unreachable-requires-then-not-is_empty : goal.unreachable-requires-then-not-is_empty
unreachable-requires-then-not-is_empty g t c =
    let name = c.in-Some.name.now in
    let ks = c.args.children.now.items in
    let gap = gap_of name _ ks _ c.in-Err.i c.as_slice.ensures c.deref.ensures.value c.in-Err.ensures.absent in
    let some : 0 < length c.in-Some.rest.now = some_rest c.in-Some.rest.now (sym c.is_empty-in-Err.ensures ∙ c.if-not-is_empty.true) in
    parent_absent ks c.requires.rising name (child_at-gap name ks c.in-Err.i c.requires.rising gap) c.args.path.now c.in-Some.rest.now c.in-Some.ensures.cases.0 some c.requires.parent

pub add-requires : goal.add-requires
add-requires g t c κs within =
    let ks = c.args.children.now.items in
    let name = c.in-Some.name.now in
    let view : dir_child c.child.inside.name c.in-Children.inner.items ≡ c.index_mut-child.result.now = rw c.in-Children.is at c.child.view_is in
    let o = opened name _ ks _ c.in-Ok.i c.index_mut-child.result.now c.child.inside.name c.in-Children.inner.items c.as_slice.ensures c.deref.ensures.value c.in-Ok.ensures.found c.index_mut-child.ensures.value view in
    let some = some_rest c.in-Some.rest.now (sym c.is_empty.ensures ∙ c.if-is_empty.false) in
    let parent = parent_dir ks c.requires.rising name c.child.inside.name c.in-Children.inner.items o.seen c.args.path.now c.in-Some.rest.now c.in-Some.ensures.cases.0 some c.requires.parent in
    let absent : look c.in-Children.inner.items c.in-Some.rest.now ≡ None = sym (look_dir name ks c.in-Ok.i c.child.inside.name c.in-Children.inner.items c.args.path.now c.in-Some.rest.now c.requires.rising o c.in-Some.ensures.cases.0) ∙ c.requires.absent in
    let valid : IsRising c.in-Children.inner.items = subst IsValid c.in-Children.is c.child.invariant in
    let less : length c.in-Some.rest.now < length c.args.path.now = omega (arith, c.in-Some.ensures.cases.1) in
    (omega (arith, less, c.decreases), (within.0, (within.1, (some, (valid, (parent, absent))))))

pub unreachable-requires-in-Text : goal.unreachable-requires-in-Text
unreachable-requires-in-Text g t c =
    let name = c.in-Some.name.now in
    let ks = c.args.children.now.items in
    let at = at_of name _ ks _ c.in-Ok.i c.as_slice.ensures c.deref.ensures.value c.in-Ok.ensures.found in
    let some = some_rest c.in-Some.rest.now (sym c.is_empty.ensures ∙ c.if-is_empty.false) in
    let view : leaf_child c.child.inside.name (File c.in-Text.field-0) ≡ c.index_mut-child.result.now = rw c.in-Text.is at c.child.view_is in
    let seen_file = seen name ks c.in-Ok.i c.index_mut-child.result.now (leaf_child c.child.inside.name (File c.in-Text.field-0)) at c.index_mut-child.ensures.value view in
    parent_file ks c.requires.rising name c.child.inside.name c.in-Text.field-0 seen_file c.args.path.now c.in-Some.rest.now c.in-Some.ensures.cases.0 some c.requires.parent

pub returns-in-Children-clause-rising : goal.returns-in-Children-clause-rising
returns-in-Children-clause-rising g t c =
    let name = c.in-Some.name.now in
    let ks = c.args.children.now.items in
    let at = at_of name _ ks _ c.in-Ok.i c.as_slice.ensures c.deref.ensures.value c.in-Ok.ensures.found in
    let view : dir_child c.child.inside.name c.in-Children.inner.items ≡ c.index_mut-child.result.now = rw c.in-Children.is at c.child.view_is in
    let same : c.child.inside.name ≡ name = ap (λ k. k.name) (view ∙ c.index_mut-child.ensures.value) ∙ at_name name ks c.in-Ok.i c.index_mut-child.result.now at in
    rising-set name ks c.in-Ok.i (dir_child c.child.inside.name c.add.new.children.items) c.requires.rising at same

pub returns-in-Children-clause-ok : goal.returns-in-Children-clause-ok
returns-in-Children-clause-ok g t c =
    let name = c.in-Some.name.now in
    let ks = c.args.children.now.items in
    let at = at_of name _ ks _ c.in-Ok.i c.as_slice.ensures c.deref.ensures.value c.in-Ok.ensures.found in
    let view : dir_child c.child.inside.name c.in-Children.inner.items ≡ c.index_mut-child.result.now = rw c.in-Children.is at c.child.view_is in
    let same : c.child.inside.name ≡ name = ap (λ k. k.name) (view ∙ c.index_mut-child.ensures.value) ∙ at_name name ks c.in-Ok.i c.index_mut-child.result.now at in
    let seen_dir = seen name ks c.in-Ok.i c.index_mut-child.result.now (dir_child c.child.inside.name c.in-Children.inner.items) at c.index_mut-child.ensures.value view in
    on_ok c.add.result _ _ (λ s. subst (λ p. SetsAt (look ks) (look (set ks c.in-Ok.i (dir_child c.child.inside.name c.add.new.children.items))) p (Some (leaf_entry c.args.leaf))) (sym c.in-Some.ensures.cases.0)
    (sets_dir ks c.requires.rising name c.in-Ok.i c.child.inside.name c.in-Children.inner.items c.add.new.children.items at same seen_dir c.in-Some.rest.now (Some (leaf_entry c.args.leaf)) s)) c.add.ensures.ok

pub returns-in-Children-clause-err : goal.returns-in-Children-clause-err
returns-in-Children-clause-err g t c =
    let ks = c.args.children.now.items in
    let view : dir_child c.child.inside.name c.in-Children.inner.items ≡ c.index_mut-child.result.now = rw c.in-Children.is at c.child.view_is in
    on_err c.add.result _ _ (λ s. ap (λ l. set ks c.in-Ok.i (dir_child c.child.inside.name l)) s ∙ ap (set ks c.in-Ok.i) view ∙ set_same ks c.in-Ok.i c.index_mut-child.result.now c.index_mut-child.ensures.value) c.add.ensures.err

pub returns-in_ok-insert-in-Err-clause-rising : goal.returns-in_ok-insert-in-Err-clause-rising
returns-in_ok-insert-in-Err-clause-rising g t c =
    let name = c.in-Some.name.now in
    let ks = c.args.children.now.items in
    let gap = gap_of name _ ks _ c.in-Err.i c.as_slice.ensures c.deref.ensures.value c.in-Err.ensures.absent in
    let node : c.in_ok-node-in-Err.node ≡ leaf_child name (leaf_entry c.args.leaf) = c.in_ok-node-in-Err.ensures ∙ ap (λ n. leaf_child n (leaf_entry c.args.leaf)) c.as_slice-in-Err.ensures in
    subst IsRising (sym (c.in_ok-insert-in-Err.ensures.items ∙ ap (insert ks c.in-Err.i) node)) (rising-insert name ks c.in-Err.i (leaf_child name (leaf_entry c.args.leaf)) c.requires.rising gap refl)

pub returns-in_ok-insert-in-Err-clause-ok : goal.returns-in_ok-insert-in-Err-clause-ok
returns-in_ok-insert-in-Err-clause-ok g t c =
    let name = c.in-Some.name.now in
    let ks = c.args.children.now.items in
    let gap = gap_of name _ ks _ c.in-Err.i c.as_slice.ensures c.deref.ensures.value c.in-Err.ensures.absent in
    let none = no_rest c.in-Some.rest.now (sym c.is_empty-in-Err.ensures ∙ c.if-not-is_empty.false) in
    let node : c.in_ok-node-in-Err.node ≡ leaf_child name (leaf_entry c.args.leaf) = c.in_ok-node-in-Err.ensures ∙ ap (λ n. leaf_child n (leaf_entry c.args.leaf)) c.as_slice-in-Err.ensures in
    let what = Some (leaf_entry c.args.leaf) in
    subst (λ l. SetsAt (look ks) (look l) c.args.path.now what) (sym (c.in_ok-insert-in-Err.ensures.items ∙ ap (insert ks c.in-Err.i) node))
    (subst (λ p. SetsAt (look ks) (look (insert ks c.in-Err.i (leaf_child name (leaf_entry c.args.leaf)))) p what) (sym (c.in-Some.ensures.cases.0 ∙ ap (λ r. name ∷ r) none))
    (sets_leaf ks c.requires.rising name c.in-Err.i (leaf_entry c.args.leaf) gap))

pub place-requires : goal.place-requires
place-requires g t c = subst IsRising (sym c.deref.ensures.value) c.requires.rising

pub index_mut-child-requires : goal.index_mut-child-requires
index_mut-child-requires g t c = subst (λ n. c.in-Ok.i < n) c.deref.ensures.len c.in-Ok.ensures.range

pub returns-in_err-node-in-Err-clause-ok : goal.returns-in_err-node-in-Err-clause-ok
returns-in_err-node-in-Err-clause-ok g t c = if_ok_err c.from_residual.result _ c.from_residual.ensures.0

pub insert-requires : goal.insert-requires
insert-requires g t c = subst (λ n. c.in-Err.i ≤ n) c.deref.ensures.len c.in-Err.ensures.range

pub returns-in_err-insert-in-Err-clause-rising : goal.returns-in_err-insert-in-Err-clause-rising
returns-in_err-insert-in-Err-clause-rising g t c = subst IsRising (sym c.in_err-insert-in-Err.ensures.items) c.requires.rising

pub returns-in_err-insert-in-Err-clause-ok : goal.returns-in_err-insert-in-Err-clause-ok
returns-in_err-insert-in-Err-clause-ok g t c = if_ok_err c.from_residual-in_err-insert-in-Err.result _ c.from_residual-in_err-insert-in-Err.ensures.0

pub returns-in_err-insert-in-Err-clause-err : goal.returns-in_err-insert-in-Err-clause-err
returns-in_err-insert-in-Err-clause-err g t c = if_err c.from_residual-in_err-insert-in-Err.result _ c.in_err-insert-in-Err.ensures.items

pub unreachable-requires : goal.unreachable-requires
unreachable-requires g t c = none_some _ c.in_default.ensures.cases c.requires.nonempty

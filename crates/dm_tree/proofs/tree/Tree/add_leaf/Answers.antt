use Rattle.std.proofs.Common.{refl, sym, ap, subst, ◌∙◌, ◌≡◌, ◌<◌, length, Some, None}
use Rattle.std.specs.FinMap as map
use Rattle.std.specs.FinMap.{get}
use Rattle.dm_tree.specs.Changes.{AddAnswers}
use Rattle.dm_tree.specs.Children.{look, IsRising, IsTree}
use Rattle.dm_tree.specs.Walks.{SetsAt, leaf_entry}
use Rattle.dm_tree.proofs.Renames.{adds_refused, refuses_add_of}
use Rattle.dm_tree.proofs.Steps.{err_memory}
use Rattle.dm_tree.proofs.Trees.{added, leaf_valid, sets_tree, get-tree_of, tree_of}
use Rattle.dm_tree.proofs.Plain.{if_err, if_ok_err}
use Rattle.dm_tree.proofs.tree.Tree.add_leaf.Goals as goal

pub add-requires-clause-parent : goal.add-requires-clause-parent
add-requires-clause-parent g c =
    let ks = c.self.inside.children.items in
    (refuses_add_of (look ks) ks _ c.names-2.result.now _ None refl c.deref.ensures.value (c.names.ensures.value ∙ sym c.names-2.ensures.value) c.in_default.ensures).0

pub add-requires-clause-absent : goal.add-requires-clause-absent
add-requires-clause-absent g c =
    let ks = c.self.inside.children.items in
    (refuses_add_of (look ks) ks _ c.names-2.result.now _ None refl c.deref.ensures.value (c.names.ensures.value ∙ sym c.names-2.ensures.value) c.in_default.ensures).1

pub returns-in-Some-clause-fault : goal.returns-in-Some-clause-fault
returns-in-Some-clause-fault g c =
    let ks = c.self.inside.children.items in
    let p = c.args.path.now in
    let is_map : look ks ≡ get c.args.self.now = sym (get-tree_of ks) ∙ ap get c.self.view_is in
    adds_refused (get c.args.self.now) p c.in-Some.fault (refuses_add_of (get c.args.self.now) ks _ p _ (Some c.in-Some.fault) is_map c.deref.ensures.value c.names.ensures.value c.in-Some.ensures)

pub returns-in_err-add-clause-fault : goal.returns-in_err-add-clause-fault
returns-in_err-add-clause-fault g c =
    let ks = c.self.inside.children.items in
    let p = c.args.path.now in
    let is_map : look ks ≡ get c.args.self.now = sym (get-tree_of ks) ∙ ap get c.self.view_is in
    err_memory (AddAnswers (get c.args.self.now) p) c.from_residual.result c.from_residual.ensures.1 (refuses_add_of (get c.args.self.now) ks _ p _ None is_map c.deref.ensures.value c.names.ensures.value c.in_default.ensures)

pub invariant_of-self-2 : goal.invariant_of-self-2
invariant_of-self-2 g c =
    let ks = c.self.inside.children.items in
    let new = c.add.new.children.items in
    let p = c.args.path.now in
    let e = leaf_entry c.args.leaf in
    let may = refuses_add_of (look ks) ks _ p _ None refl c.deref.ensures.value c.names.ensures.value c.in_default.ensures in
    let sets : SetsAt (look ks) (look new) p (Some e) = subst (λ x. SetsAt (look ks) (look new) x (Some e)) c.names-2.ensures.value c.in_ok-add.ensures.ok in
    added ks new p e c.self.invariant c.names.ensures.valid (leaf_valid c.args.leaf) may.0 may.1 c.add.ensures.rising sets

pub returns-clause-fault : goal.returns-clause-fault
returns-clause-fault g c =
    let ks = c.self.inside.children.items in
    let p = c.args.path.now in
    let is_map : look ks ≡ get c.args.self.now = sym (get-tree_of ks) ∙ ap get c.self.view_is in
    refuses_add_of (get c.args.self.now) ks _ p _ None is_map c.deref.ensures.value c.names.ensures.value c.in_default.ensures

pub returns-clause-ok : goal.returns-clause-ok
returns-clause-ok g c =
    let ks = c.self.inside.children.items in
    let new = c.add.new.children.items in
    let p = c.args.path.now in
    let e = leaf_entry c.args.leaf in
    let sets : SetsAt (look ks) (look new) p (Some e) = subst (λ x. SetsAt (look ks) (look new) x (Some e)) c.names-2.ensures.value c.in_ok-add.ensures.ok in
    sets_tree ks new p e sets ∙ ap (λ t. map.insert t p e) c.self.view_is

pub add_refused-requires-clause-nonempty : goal.add_refused-requires-clause-nonempty
add_refused-requires-clause-nonempty g c = subst (λ p. 0 < length p) (sym c.names.ensures.value) c.names.ensures.not_root

pub add_refused-requires-clause-rising : goal.add_refused-requires-clause-rising
add_refused-requires-clause-rising g c = subst IsRising (sym c.deref.ensures.value) c.self.invariant.rising

pub add-requires-clause-nonempty : goal.add-requires-clause-nonempty
add-requires-clause-nonempty g c = subst (λ p. 0 < length p) (sym c.names-2.ensures.value) c.names-2.ensures.not_root

pub add-requires-clause-rising : goal.add-requires-clause-rising
add-requires-clause-rising g c = c.self.invariant.rising

pub invariant_of-self : goal.invariant_of-self
invariant_of-self g c = subst IsTree (sym c.in_err-add.ensures.err) c.self.invariant

pub returns-in_err-add-clause-ok : goal.returns-in_err-add-clause-ok
returns-in_err-add-clause-ok g c = if_ok_err c.from_residual.result _ c.from_residual.ensures.0

pub returns-in_err-add-clause-err : goal.returns-in_err-add-clause-err
returns-in_err-add-clause-err g c = if_err c.from_residual.result _ (ap tree_of c.in_err-add.ensures.err ∙ c.self.view_is)

use Rattle.std.proofs.Common.{refl, sym, ap, subst, ◌∙◌, ◌≡◌, ◌<◌, ◌≤◌, length, Ok, Err}
use Rattle.std.specs.FinMap.{get}
use Rattle.dm_tree.specs.Changes.{Renamed, RenameAnswers}
use Rattle.dm_tree.specs.Children.{IsRising, IsTree, look}
use Rattle.dm_tree.proofs.Moved.{moved_tree}
use Rattle.dm_tree.proofs.Plain.{if_err, if_ok_err}
use Rattle.dm_tree.proofs.Renames.{renames_of}
use Rattle.dm_tree.proofs.Steps.{err_memory}
use Rattle.dm_tree.proofs.Trees.{get-tree_of, tree_of}
use Rattle.dm_tree.proofs.tree.Tree.rename.Goals as goal

pub rename_allowed-requires-clause-from_named : goal.rename_allowed-requires-clause-from_named
rename_allowed-requires-clause-from_named g c = subst (λ p. 0 < length p) (sym c.names.ensures.value) c.names.ensures.not_root

pub rename_allowed-requires-clause-to_named : goal.rename_allowed-requires-clause-to_named
rename_allowed-requires-clause-to_named g c = subst (λ p. 0 < length p) (sym c.names-2.ensures.value) c.names-2.ensures.not_root

pub rename_allowed-requires-clause-not_deep : goal.rename_allowed-requires-clause-not_deep
rename_allowed-requires-clause-not_deep g c = subst (λ p. length p ≤ 32) (sym c.names-2.ensures.value) c.names-2.ensures.not_deep

pub rename_allowed-requires-clause-rising : goal.rename_allowed-requires-clause-rising
rename_allowed-requires-clause-rising g c = subst IsRising (sym c.deref.ensures.value) c.self.invariant.rising

pub move_node-requires-clause-rising : goal.move_node-requires-clause-rising
move_node-requires-clause-rising g c = c.self.invariant.rising

pub move_node-requires-clause-lawful : goal.move_node-requires-clause-lawful
move_node-requires-clause-lawful g c = c.self.invariant.lawful

pub returns-in-Err-clause-fault : goal.returns-in-Err-clause-fault
returns-in-Err-clause-fault g c =
    let ks = c.self.inside.children.items in
    let a = c.args.from.now in
    let b = c.args.to.now in
    let is_map : look ks ≡ get c.args.self.now = sym (get-tree_of ks) ∙ ap get c.self.view_is in
    renames_of (get c.args.self.now) ks _ a _ b _ (Err c.in-Err.fault) is_map c.deref.ensures.value c.names.ensures.value c.names-2.ensures.value c.in-Err.ensures

pub move_node-requires-clause-may : goal.move_node-requires-clause-may
move_node-requires-clause-may g c =
    let ks = c.self.inside.children.items in
    (renames_of (look ks) ks _ c.names-3.result.now _ c.names-4.result.now _ (Ok tt) refl c.deref.ensures.value (c.names.ensures.value ∙ sym c.names-3.ensures.value) (c.names-2.ensures.value ∙ sym c.names-4.ensures.value) c.in_default.ensures).0

pub returns-in_err-move_node-clause-fault : goal.returns-in_err-move_node-clause-fault
returns-in_err-move_node-clause-fault g c =
    let ks = c.self.inside.children.items in
    let a = c.args.from.now in
    let b = c.args.to.now in
    let is_map : look ks ≡ get c.args.self.now = sym (get-tree_of ks) ∙ ap get c.self.view_is in
    err_memory (RenameAnswers (get c.args.self.now) a b) c.from_residual.result c.from_residual.ensures.1 (renames_of (get c.args.self.now) ks _ a _ b _ (Ok tt) is_map c.deref.ensures.value c.names.ensures.value c.names-2.ensures.value c.in_default.ensures)

pub invariant_of-self-2 : goal.invariant_of-self-2
invariant_of-self-2 g c =
    let ks = c.self.inside.children.items in
    let new = c.move_node.new.children.items in
    let a = c.args.from.now in
    let b = c.args.to.now in
    let may = renames_of (look ks) ks _ a _ b _ (Ok tt) refl c.deref.ensures.value c.names.ensures.value c.names-2.ensures.value c.in_default.ensures in
    let ren : Renamed a b (look ks) (look new) = subst (λ y. Renamed a y (look ks) (look new)) c.names-4.ensures.value (subst (λ x. Renamed x c.names-4.result.now (look ks) (look new)) c.names-3.ensures.value c.in_ok-move_node.ensures.ok) in
    moved_tree ks new a b c.self.invariant c.move_node.ensures.rising may.0 c.names-2.ensures.valid may.1 ren

pub returns-clause-fault : goal.returns-clause-fault
returns-clause-fault g c =
    let ks = c.self.inside.children.items in
    let a = c.args.from.now in
    let b = c.args.to.now in
    let is_map : look ks ≡ get c.args.self.now = sym (get-tree_of ks) ∙ ap get c.self.view_is in
    renames_of (get c.args.self.now) ks _ a _ b _ (Ok tt) is_map c.deref.ensures.value c.names.ensures.value c.names-2.ensures.value c.in_default.ensures

pub returns-clause-ok : goal.returns-clause-ok
returns-clause-ok g c =
    let new = c.move_node.new.children.items in
    let ks = c.self.inside.children.items in
    let a = c.args.from.now in
    let b = c.args.to.now in
    let is_map : look ks ≡ get c.args.self.now = sym (get-tree_of ks) ∙ ap get c.self.view_is in
    let ren : Renamed a b (look ks) (look new) = subst (λ y. Renamed a y (look ks) (look new)) c.names-4.ensures.value (subst (λ x. Renamed x c.names-4.result.now (look ks) (look new)) c.names-3.ensures.value c.in_ok-move_node.ensures.ok) in
    subst (λ m. Renamed a b m (get (tree_of new))) is_map (subst (λ m. Renamed a b (look ks) m) (sym (get-tree_of new)) ren)

pub move_node-requires-clause-from_named : goal.move_node-requires-clause-from_named
move_node-requires-clause-from_named g c = subst (λ p. 0 < length p) (sym c.names-3.ensures.value) c.names-3.ensures.not_root

pub move_node-requires-clause-to_named : goal.move_node-requires-clause-to_named
move_node-requires-clause-to_named g c = subst (λ p. 0 < length p) (sym c.names-4.ensures.value) c.names-4.ensures.not_root

pub invariant_of-self : goal.invariant_of-self
invariant_of-self g c = subst IsTree (sym c.in_err-move_node.ensures.err) c.self.invariant

pub returns-in_err-move_node-clause-ok : goal.returns-in_err-move_node-clause-ok
returns-in_err-move_node-clause-ok g c = if_ok_err c.from_residual.result _ c.from_residual.ensures.0

pub returns-in_err-move_node-clause-err : goal.returns-in_err-move_node-clause-err
returns-in_err-move_node-clause-err g c = if_err c.from_residual.result _ (ap tree_of c.in_err-move_node.ensures.err ∙ c.self.view_is)

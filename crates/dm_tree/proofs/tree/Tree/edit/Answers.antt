use Rattle.std.proofs.Common.{refl, sym, ap, subst, ◌∙◌, ◌≡◌, ◌+◌, ◌-◌, ◌<◌, length, Some, None}
use Rattle.std.specs.FinMap.{get, insert}
use Rattle.std.specs.List.{splice}
use Rattle.dm_tree.specs.Trees.{Lines, File}
use Rattle.dm_tree.specs.Changes.{EditAnswers}
use Rattle.dm_tree.specs.Children.{look, IsTree}
use Rattle.dm_tree.specs.Nested.{entry_of}
use Rattle.dm_tree.specs.Walks.{SetsAt, CanSplice, spliced}
use Rattle.dm_tree.proofs.Edits.{edit_refused, edited_tree, edits_splice, may_edit, refuses_edit_of}
use Rattle.dm_tree.proofs.Steps.{err_memory}
use Rattle.dm_tree.proofs.Trees.{get-tree_of, sets_tree, tree_of}
use Rattle.dm_tree.proofs.Plain.{if_err, if_ok_err, one_more, before_fits, total_fits}
use Rattle.dm_tree.proofs.tree.Tree.edit.Goals as goal

pub returns-in-None-clause-fault : goal.returns-in-None-clause-fault
returns-in-None-clause-fault g c = sym c.in-None.ensures.value

pub returns-in-Some-Children-clause-fault : goal.returns-in-Some-Children-clause-fault
returns-in-Some-Children-clause-fault g c = sym c.in-Some-Children.ensures.value ∙ ap (λ b. Some (entry_of b)) c.in-Some-Children.field-0-is

pub returns-in-Some-clause-fault : goal.returns-in-Some-clause-fault
returns-in-Some-clause-fault g c =
    let p = c.args.path.now in
    let n = c.args.line in
    let ls = c.in-Some-Text.file in
    let old = c.args.old.now in
    let new = c.args.new.now in
    let at_file : get c.args.self.now p ≡ Some (File ls) = sym c.in-Some-Text.ensures.value ∙ ap (λ b. Some (entry_of b)) c.in-Some-Text.field-0-is in
    edit_refused (get c.args.self.now) p n old new ls at_file c.in-Some.fault (refuses_edit_of ls _ n old _ new _ (Some c.in-Some.fault) refl c.text.ensures.value c.text-in-Some-Text.ensures.value c.in-Some.ensures.fault)

pub edit_at-requires-clause-may : goal.edit_at-requires-clause-may
edit_at-requires-clause-may g c =
    let ks = c.self.inside.children.items in
    let p = c.args.path.now in
    let n = c.args.line in
    let ls = c.in-Some-Text.file in
    let old = c.args.old.now in
    let new = c.args.new.now in
    let at_file : get c.args.self.now p ≡ Some (File ls) = sym c.in-Some-Text.ensures.value ∙ ap (λ b. Some (entry_of b)) c.in-Some-Text.field-0-is in
    let edits = refuses_edit_of ls _ n old _ new _ None refl c.text.ensures.value c.text-in-Some-Text.ensures.value c.in_default.ensures.fault in
    let is_map : look ks ≡ get c.args.self.now = sym (get-tree_of ks) ∙ ap get c.self.view_is in
    let file : look ks p ≡ Some (File ls) = ap (λ m. m p) is_map ∙ at_file in
    let end_is : c.len.result ≡ length old = c.len.ensures.value in
    let fresh_is : c.text-2.result.now ≡ new = c.text-2.ensures.value in
    subst (λ o. CanSplice o (n - 1) (n - 1 + c.len.result) c.text-2.result.now) (sym (ap (look ks) c.names.ensures.value ∙ file))
    (subst (λ e. CanSplice (Some (File ls)) (n - 1) (n - 1 + e) c.text-2.result.now) (sym end_is)
    (subst (λ f. CanSplice (Some (File ls)) (n - 1) (n - 1 + length old) f) (sym fresh_is) (may_edit ls edits.0 n old new edits.1)))

pub returns-in_err-edit_at-clause-fault : goal.returns-in_err-edit_at-clause-fault
returns-in_err-edit_at-clause-fault g c =
    let p = c.args.path.now in
    let n = c.args.line in
    let ls = c.in-Some-Text.file in
    let old = c.args.old.now in
    let new = c.args.new.now in
    let at_file : get c.args.self.now p ≡ Some (File ls) = sym c.in-Some-Text.ensures.value ∙ ap (λ b. Some (entry_of b)) c.in-Some-Text.field-0-is in
    let edits = refuses_edit_of ls _ n old _ new _ None refl c.text.ensures.value c.text-in-Some-Text.ensures.value c.in_default.ensures.fault in
    err_memory (EditAnswers (get c.args.self.now) p n old new) c.from_residual.result c.from_residual.ensures.1 (ls, edits.0, at_file, edits.1)

pub invariant_of-self-2 : goal.invariant_of-self-2
invariant_of-self-2 g c =
    let ks = c.self.inside.children.items in
    let p = c.args.path.now in
    let n = c.args.line in
    let ls = c.in-Some-Text.file in
    let old = c.args.old.now in
    let new = c.args.new.now in
    let at_file : get c.args.self.now p ≡ Some (File ls) = sym c.in-Some-Text.ensures.value ∙ ap (λ b. Some (entry_of b)) c.in-Some-Text.field-0-is in
    let edits = refuses_edit_of ls _ n old _ new _ None refl c.text.ensures.value c.text-in-Some-Text.ensures.value c.in_default.ensures.fault in
    let is_map : look ks ≡ get c.args.self.now = sym (get-tree_of ks) ∙ ap get c.self.view_is in
    let file : look ks p ≡ Some (File ls) = ap (λ m. m p) is_map ∙ at_file in
    let end_is : c.len.result ≡ length old = c.len.ensures.value in
    let fresh_is : c.text-2.result.now ≡ new = c.text-2.ensures.value in
    let ls' = edits.0 in
    let what : spliced (look ks c.names.result.now) (n - 1) (n - 1 + c.len.result) c.text-2.result.now ≡ Some (File ls') =
    ap (λ o. spliced o (n - 1) (n - 1 + c.len.result) c.text-2.result.now) (ap (look ks) c.names.ensures.value ∙ file) ∙ ap (λ e. Some (File (splice ls (n - 1) (n - 1 + e) c.text-2.result.now))) end_is ∙ ap (λ f. Some (File (splice ls (n - 1) (n - 1 + length old) f))) fresh_is ∙ ap (λ (l : Lines). Some (File l)) (edits_splice ls ls' n old new edits.1) in
    let sets : SetsAt (look ks) (look c.edit_at.new.children.items) p (Some (File ls')) =
    subst (λ r. SetsAt (look ks) (look c.edit_at.new.children.items) r (Some (File ls'))) c.names.ensures.value (subst (λ w. SetsAt (look ks) (look c.edit_at.new.children.items) c.names.result.now w) what c.in_ok-edit_at.ensures.ok) in
    edited_tree ks c.edit_at.new.children.items p ls ls' sets file c.self.invariant c.edit_at.ensures.rising edits.1.left

pub returns-clause-fault : goal.returns-clause-fault
returns-clause-fault g c =
    let p = c.args.path.now in
    let n = c.args.line in
    let ls = c.in-Some-Text.file in
    let old = c.args.old.now in
    let new = c.args.new.now in
    let at_file : get c.args.self.now p ≡ Some (File ls) = sym c.in-Some-Text.ensures.value ∙ ap (λ b. Some (entry_of b)) c.in-Some-Text.field-0-is in
    let edits = refuses_edit_of ls _ n old _ new _ None refl c.text.ensures.value c.text-in-Some-Text.ensures.value c.in_default.ensures.fault in
    (ls, edits.0, at_file, edits.1)

pub returns-clause-ok : goal.returns-clause-ok
returns-clause-ok g c =
    let ks = c.self.inside.children.items in
    let p = c.args.path.now in
    let n = c.args.line in
    let ls = c.in-Some-Text.file in
    let old = c.args.old.now in
    let new = c.args.new.now in
    let at_file : get c.args.self.now p ≡ Some (File ls) = sym c.in-Some-Text.ensures.value ∙ ap (λ b. Some (entry_of b)) c.in-Some-Text.field-0-is in
    let edits = refuses_edit_of ls _ n old _ new _ None refl c.text.ensures.value c.text-in-Some-Text.ensures.value c.in_default.ensures.fault in
    let is_map : look ks ≡ get c.args.self.now = sym (get-tree_of ks) ∙ ap get c.self.view_is in
    let file : look ks p ≡ Some (File ls) = ap (λ m. m p) is_map ∙ at_file in
    let end_is : c.len.result ≡ length old = c.len.ensures.value in
    let fresh_is : c.text-2.result.now ≡ new = c.text-2.ensures.value in
    let ls' = edits.0 in
    let what : spliced (look ks c.names.result.now) (n - 1) (n - 1 + c.len.result) c.text-2.result.now ≡ Some (File ls') =
    ap (λ o. spliced o (n - 1) (n - 1 + c.len.result) c.text-2.result.now) (ap (look ks) c.names.ensures.value ∙ file) ∙ ap (λ e. Some (File (splice ls (n - 1) (n - 1 + e) c.text-2.result.now))) end_is ∙ ap (λ f. Some (File (splice ls (n - 1) (n - 1 + length old) f))) fresh_is ∙ ap (λ (l : Lines). Some (File l)) (edits_splice ls ls' n old new edits.1) in
    let sets : SetsAt (look ks) (look c.edit_at.new.children.items) p (Some (File ls')) =
    subst (λ r. SetsAt (look ks) (look c.edit_at.new.children.items) r (Some (File ls'))) c.names.ensures.value (subst (λ w. SetsAt (look ks) (look c.edit_at.new.children.items) c.names.result.now w) what c.in_ok-edit_at.ensures.ok) in
    (ls, ls', at_file, edits.1, sets_tree ks c.edit_at.new.children.items p (File ls') sets ∙ ap (λ t. insert t p (File ls')) c.self.view_is)

pub overflow_sub-start : goal.overflow_sub-start
overflow_sub-start g c = one_more _ c.args.line c.in_default.ensures.fault.1.at

pub overflow_cast-start : goal.overflow_cast-start
overflow_cast-start g c = before_fits c.args.line c.ranges.line

pub overflow_add-end : goal.overflow_add-end
overflow_add-end g c = total_fits (c.args.line - 1) c.len.result _ c.in_default.ensures.fits (c.len.ensures.value ∙ sym (ap length c.text.ensures.value))

pub edit_at-requires-clause-nonempty : goal.edit_at-requires-clause-nonempty
edit_at-requires-clause-nonempty g c = subst (λ p. 0 < length p) (sym c.names.ensures.value) c.names.ensures.not_root

pub edit_at-requires-clause-rising : goal.edit_at-requires-clause-rising
edit_at-requires-clause-rising g c = c.self.invariant.rising

pub invariant_of-self : goal.invariant_of-self
invariant_of-self g c = subst IsTree (sym c.in_err-edit_at.ensures.err) c.self.invariant

pub returns-in_err-edit_at-clause-ok : goal.returns-in_err-edit_at-clause-ok
returns-in_err-edit_at-clause-ok g c = if_ok_err c.from_residual.result _ c.from_residual.ensures.0

pub returns-in_err-edit_at-clause-err : goal.returns-in_err-edit_at-clause-err
returns-in_err-edit_at-clause-err g c = if_err c.from_residual.result _ (ap tree_of c.in_err-edit_at.ensures.err ∙ c.self.view_is)

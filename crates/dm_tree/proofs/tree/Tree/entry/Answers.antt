use Rattle.std.proofs.Common.{sym, ap, subst, ◌<◌, length, ◌∙◌, ◌≡◌, List, ℕ, Some}
use Rattle.std.specs.FinMap.{get}
use Rattle.dm_tree.specs.Trees.{File}
use Rattle.dm_tree.specs.Children.{look, IsRising}
use Rattle.dm_tree.specs.Nested.{entry_of}
use Rattle.dm_tree.proofs.Edits.{some_lines}
use Rattle.dm_tree.proofs.Trees.{get-tree_of}
use Rattle.dm_tree.proofs.tree.Tree.entry.Goals as goal

pub new-requires : goal.new-requires
new-requires g c =
    let ks = c.self.inside.children.items in
    let ls = c.in-Some-Text.file in
    let at : look ks c.args.path.now ≡ Some (File ls) =
    sym (sym (ap (λ b. Some (entry_of b)) c.in-Some-Text.field-0-is) ∙ c.in-Some-Text.ensures.value ∙ ap (look c.deref.result.now) c.names.ensures.value ∙ ap (λ k. look k c.args.path.now) c.deref.ensures.value) in
    some_lines ls (c.self.invariant.lawful.lines c.args.path.now ls at)

pub returns-in-None : goal.returns-in-None
returns-in-None g c =
    let ks = c.self.inside.children.items in
    c.in-None.ensures.value ∙ ap (look c.deref.result.now) c.names.ensures.value ∙ ap (λ k. look k c.args.path.now) c.deref.ensures.value ∙ ap (λ m. m c.args.path.now) (sym (get-tree_of ks) ∙ ap get c.self.view_is)

pub returns-in-Some-Children : goal.returns-in-Some-Children
returns-in-Some-Children g c =
    let ks = c.self.inside.children.items in
    sym (ap (λ b. Some (entry_of b)) c.in-Some-Children.field-0-is) ∙ c.in-Some-Children.ensures.value ∙ ap (look c.deref.result.now) c.names.ensures.value ∙ ap (λ k. look k c.args.path.now) c.deref.ensures.value ∙ ap (λ m. m c.args.path.now) (sym (get-tree_of ks) ∙ ap get c.self.view_is)

pub returns-in-Some-Text : goal.returns-in-Some-Text
returns-in-Some-Text g c =
    let ks = c.self.inside.children.items in
    ap (λ (l : List (List ℕ)). Some (File l)) (c.new.ensures) ∙ sym (ap (λ b. Some (entry_of b)) c.in-Some-Text.field-0-is) ∙ c.in-Some-Text.ensures.value ∙ ap (look c.deref.result.now) c.names.ensures.value ∙ ap (λ k. look k c.args.path.now) c.deref.ensures.value ∙ ap (λ m. m c.args.path.now) (sym (get-tree_of ks) ∙ ap get c.self.view_is)

pub find-requires-clause-nonempty : goal.find-requires-clause-nonempty
find-requires-clause-nonempty g c = subst (λ p. 0 < length p) (sym c.names.ensures.value) c.names.ensures.not_root

pub find-requires-clause-rising : goal.find-requires-clause-rising
find-requires-clause-rising g c = subst IsRising (sym c.deref.ensures.value) c.self.invariant.rising

use Rattle.std.proofs.Common.{sym, ap, subst, ◌<◌, length, ◌∙◌, ◌≡◌, ◌++◌}
use Rattle.std.specs.FinMap.{get}
use Rattle.dm_tree.specs.Children.{look, IsRising}
use Rattle.dm_tree.proofs.Trees.{get-tree_of}
use Rattle.dm_tree.proofs.Steps.{if_some}
use Rattle.dm_tree.proofs.tree.Tree.stands.Goals as goal

pub returns-clause-value : goal.returns-clause-value
returns-clause-value g c =
    let map : look c.self.inside.children.items ≡ get c.args.self.now = sym (get-tree_of c.self.inside.children.items) ∙ ap get c.self.view_is in
    c.find.ensures.value ∙ ap (look c.deref.result.now) c.names.ensures.value ∙ ap (λ k. look k c.args.path.now) c.deref.ensures.value ∙ ap (λ m. m c.args.path.now) map

pub returns-clause-part : goal.returns-clause-part
returns-clause-part g c =
    let map : look c.self.inside.children.items ≡ get c.args.self.now = sym (get-tree_of c.self.inside.children.items) ∙ ap get c.self.view_is in
    if_some c.find.result _ _ (λ b h q. h q ∙ ap (λ p. look c.deref.result.now (p ++ q)) c.names.ensures.value ∙ ap (λ k. look k (c.args.path.now ++ q)) c.deref.ensures.value ∙ ap (λ m. m (c.args.path.now ++ q)) map) c.find.ensures.part

pub find-requires-clause-nonempty : goal.find-requires-clause-nonempty
find-requires-clause-nonempty g c = subst (λ p. 0 < length p) (sym c.names.ensures.value) c.names.ensures.not_root

pub find-requires-clause-rising : goal.find-requires-clause-rising
find-requires-clause-rising g c = subst IsRising (sym c.deref.ensures.value) c.self.invariant.rising

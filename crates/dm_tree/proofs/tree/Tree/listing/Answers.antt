use Rattle.std.proofs.Common.{◌∙◌, ◌++◌, [], sym, ap, subst, drop, map}
use Rattle.std.specs.FinMap.{entries}
use Rattle.dm_tree.specs.Paths.{Path}
use Rattle.dm_tree.specs.Listings.{listed_entry}
use Rattle.dm_tree.specs.Children.{PathEntries, flatten}
use Rattle.dm_tree.specs.Walks.{AreValid, InOrder, listed}
use Rattle.dm_tree.proofs.Listings.{valid_tree, listed_root, entries_tree}
use Rattle.dm_tree.proofs.tree.Tree.listing.Goals as goal

pub list_children-requires-clause-valid : goal.list_children-requires-clause-valid
list_children-requires-clause-valid g c =
    let ks = c.self.inside.children.items in
    subst (λ (p : Path). AreValid p (flatten c.deref.result.now)) (sym (c.deref-2.ensures.value ∙ c.new-root.ensures.items))
    (subst (λ l. AreValid [] (flatten l)) (sym c.deref.ensures.value) (valid_tree ks c.self.invariant))

pub returns : goal.returns
returns g c =
    let ks = c.self.inside.children.items in
    let sorted : InOrder (flatten ks) = subst (λ l. InOrder (flatten l)) c.deref.ensures.value c.in_ok-list_children.ensures.sorted in
    c.in_ok-list_children.ensures.ok
    ∙ ap (λ l. l ++ listed c.deref-2.result.now (flatten c.deref.result.now)) c.new-out.ensures.items
    ∙ ap (λ (p : Path). listed p (flatten c.deref.result.now)) (c.deref-2.ensures.value ∙ c.new-root.ensures.items)
    ∙ ap (λ l. listed [] (flatten l)) c.deref.ensures.value
    ∙ listed_root (flatten ks)
    ∙ ap (λ (es : PathEntries). map listed_entry (drop 1 es)) (sym (entries_tree ks sorted))
    ∙ ap (λ t. map listed_entry (drop 1 (entries t))) c.self.view_is

use Rattle.std.proofs.Common.{arith, ◌≡◌, ◌<◌, ◌∙◌, ◌++◌, ◌∷◌, [], length, List, append-nil, sym, ap, subst, get_or}
use Rattle.dm_tree.specs.Trees.{Entry}
use Rattle.dm_tree.specs.Children.{Child, PathEntries, all, below, flatten, IsRising}
use Rattle.dm_tree.specs.Nested.{IsValid}
use Rattle.dm_tree.specs.Walks.{AreValid, listed}
use Rattle.dm_tree.specs.Validity.{IsValidPath}
use Rattle.std.proofs.lemmas.List.{take_all}
use Rattle.dm_tree.specs.NodeFalls.{one_le}
use Rattle.dm_tree.proofs.Adds.{dir_child}
use Rattle.dm_tree.proofs.Sorted.{sorted_flatten}
use Rattle.dm_tree.proofs.Listings.{if_ok, valid_at, valid_below, more_rows, dir_rows, sorted_more, sorted_all, dir_sorted}
use Rattle.dm_tree.proofs.listing.+list.Goals as goal

pub list_children-list_node-requires : goal.list_children-list_node-requires
list_children-list_node-requires g t c κs within =
    let ks = c.args.children.now in
    let i = c.loop-child.child-index in
    let lt : i < length ks = omega (arith, c.loop-child-test.true) in
    let le = one_le ks i c.child-item.result lt in
    let is : length c.child-item.result.under ≡ length (get_or ks i c.child-item.result).under = ap (λ (k : Child). length k.under) c.child-item.is in
    let valid = subst (λ (k : Child). AreValid c.args.above.now (below k.name (all k))) (sym c.child-item.is) (valid_at c.args.above.now ks i c.child-item.result lt c.requires.valid) in
    (omega (arith, le, is, c.decreases), (within.0, (within.1, valid)))

pub list_children-loop-child-preserved : goal.list_children-loop-child-preserved
list_children-loop-child-preserved g t c =
    let ks = c.args.children.now in
    let i = c.loop-child.child-index in (
      more_rows c.args.out.now.items c.loop-child.out.items c.list_node.new.out.items c.args.above.now ks i c.child-item.result c.child-item.result c.loop-child-test.true c.child-item.is c.loop-child.invariant.0 c.in_ok-list_node.ensures.ok,
      sorted_more ks i c.child-item.result c.child-item.result c.loop-child-test.true c.child-item.is c.loop-child.invariant.1 c.in_ok-list_node.ensures.sorted,
    )

pub list_children-returns-clause-sorted : goal.list_children-returns-clause-sorted
list_children-returns-clause-sorted g t c = sorted_flatten c.args.children.now c.requires.rising (sorted_all c.args.children.now c.loop-child.child-index c.loop-child-test.false c.loop-child.invariant.1)

pub list_node-list_children-requires : goal.list_node-list_children-requires
list_node-list_children-requires g t c κs within =
    let k = c.args.node.now in
    let view : dir_child c.node.inside.name c.in-Children.children.items ≡ k = rw c.in-Children.is at c.node.view_is in
    let under : flatten c.in-Children.children.items ≡ k.under = ap (λ (x : Child). x.under) view in
    let children : c.deref-in-Children.result.now ≡ c.in-Children.children.items = c.deref-in-Children.ensures.value in
    let size : length (flatten c.deref-in-Children.result.now) ≡ length k.under = ap (λ l. length (flatten l)) children ∙ ap (λ (u : PathEntries). length u) under in
    let rising : IsRising c.in-Children.children.items = subst IsValid c.in-Children.is c.node.invariant in
    let names = c.deref-in-Children-2.ensures.value ∙ c.in_ok-names-in-Children.ensures ∙ ap (λ n. c.args.above.now ++ n ∷ []) c.name-in-Children.ensures in
    let valid = valid_below c.args.above.now k.name k.under c.requires.valid.1 in
    (omega (arith, size, c.decreases), (within.0, (within.1, (subst IsRising (sym children) rising, subst (λ p. AreValid p (flatten c.deref-in-Children.result.now)) (sym names) (subst (AreValid (c.args.above.now ++ k.name ∷ [])) (sym (ap flatten children ∙ under)) valid)))))

pub list_node-returns-in_ok-push-in-Children-clause-ok : goal.list_node-returns-in_ok-push-in-Children-clause-ok
list_node-returns-in_ok-push-in-Children-clause-ok g t c =
    let k = c.args.node.now in
    let view : dir_child c.node.inside.name c.in-Children.children.items ≡ k = rw c.in-Children.is at c.node.view_is in
    let under : flatten c.in-Children.children.items ≡ k.under = ap (λ (x : Child). x.under) view in
    let dir : k.entry ≡ Rattle.dm_tree.specs.Trees.Dir = sym (ap (λ (x : Child). x.entry) view) in
    let own = c.in_ok-names-in-Children.ensures ∙ ap (λ n. c.args.above.now ++ n ∷ []) c.name-in-Children.ensures in
    let names = c.deref-in-Children-2.ensures.value ∙ own in
    let here = c.from_names-path.ensures ∙ c.in_ok-copy_all-in-Children.ensures ∙ c.deref.ensures.value ∙ own in
    let rows = ap flatten c.deref-in-Children.ensures.value ∙ under in
    if_ok c.list_children.result _ _ (λ x e. dir_rows c.args.out.now.items c.push-in-Children.new.self.items c.list_children.new.out.items c.args.above.now c.args.above.now c.from_names-path.result c.deref-in-Children-2.result.now k.name k.entry (flatten c.deref-in-Children.result.now) k.under dir here names rows c.in_ok-push-in-Children.ensures.items e) c.list_children.ensures.ok

pub list_node-returns-in_ok-push-in-Children-clause-sorted : goal.list_node-returns-in_ok-push-in-Children-clause-sorted
list_node-returns-in_ok-push-in-Children-clause-sorted g t c =
    let k = c.args.node.now in
    let view : dir_child c.node.inside.name c.in-Children.children.items ≡ k = rw c.in-Children.is at c.node.view_is in
    let under : k.under ≡ flatten c.in-Children.children.items = sym (ap (λ (x : Child). x.under) view) in
    if_ok c.list_children.result _ _ (λ x o. dir_sorted k c.in-Children.children.items c.deref-in-Children.result.now under c.deref-in-Children.ensures.value o) c.list_children.ensures.sorted

pub list_children-loop-child-init : goal.list_children-loop-child-init
list_children-loop-child-init g t c = (sym (append-nil c.args.out.now.items), tt)

pub list_children-returns-clause-ok : goal.list_children-returns-clause-ok
list_children-returns-clause-ok g t c = c.loop-child.invariant.0 ∙ ap (λ (z : List Child). c.args.out.now.items ++ listed c.args.above.now (flatten z)) (take_all c.loop-child.child-index c.args.children.now c.loop-child-test.false)

pub list_node-bytes-requires : goal.list_node-bytes-requires
list_node-bytes-requires g t c = subst IsValid c.in-Text.is c.node.invariant

pub list_node-from_names-requires : goal.list_node-from_names-requires
list_node-from_names-requires g t c = subst IsValidPath (sym (c.in_ok-names-in-Text.ensures ∙ ap (λ n. c.args.above.now ++ n ∷ []) c.name.ensures)) c.requires.valid.0

pub list_node-from_names-path-requires : goal.list_node-from_names-path-requires
list_node-from_names-path-requires g t c =
    let own = c.in_ok-names-in-Children.ensures ∙ ap (λ n. c.args.above.now ++ n ∷ []) c.name-in-Children.ensures in
    subst IsValidPath (sym (c.in_ok-copy_all-in-Children.ensures ∙ c.deref.ensures.value ∙ own)) c.requires.valid.0

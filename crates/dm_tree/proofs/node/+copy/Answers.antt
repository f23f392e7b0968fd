use Rattle.std.proofs.Common.{arith, ◌≡◌, ◌<◌, ◌∙◌, length, sym, ap, subst, List, ℕ}
use Rattle.dm_tree.specs.Children.{Child, flatten, IsRising}
use Rattle.dm_tree.specs.Nested.{IsValid}
use Rattle.dm_tree.proofs.Adds.{dir_child}
use Rattle.dm_tree.proofs.Copies.{copied_more, copied_all}
use Rattle.dm_tree.proofs.node.+copy.Goals as goal
use Rattle.std.proofs.Common.{get_or}
use Rattle.dm_tree.specs.NodeFalls.{one_le}

pub copy_node-copy_children-requires : goal.copy_node-copy_children-requires
copy_node-copy_children-requires g t c κs within =
    let view : dir_child c.node.inside.name c.in-Children.children.items ≡ c.args.node.now = rw c.in-Children.is at c.node.view_is in
    let under : length (flatten c.in-Children.children.items) ≡ length c.args.node.now.under = ap (λ k. length k.under) view in
    let same : length (flatten c.deref.result.now) ≡ length (flatten c.in-Children.children.items) = ap (λ l. length (flatten l)) c.deref.ensures.value in
    (omega (arith, under, same, c.decreases), (within.0, within.1))

pub copy_node-invariant_of-result : goal.copy_node-invariant_of-result
copy_node-invariant_of-result g t c =
    let valid : 0 < length c.in-Text.file = subst IsValid c.in-Text.is c.node.invariant in
    subst (λ (l : List (List ℕ)). 0 < length l) (sym (c.in_ok-copy_into-in-Text.ensures)) valid

pub copy_node-invariant_of-result-in-Children : goal.copy_node-invariant_of-result-in-Children
copy_node-invariant_of-result-in-Children g t c =
    let valid : IsRising c.in-Children.children.items = subst IsValid c.in-Children.is c.node.invariant in
    subst IsRising (sym (c.in_ok-copy_children-in-Children.ensures ∙ c.deref.ensures.value)) valid

pub copy_children-copy_node-requires : goal.copy_children-copy_node-requires
copy_children-copy_node-requires g t c κs within =
    let ks = c.args.children.now in
    let lt : c.loop-child.child-index < length ks = omega (arith, c.loop-child-test.true) in
    let le = one_le ks c.loop-child.child-index c.child-item.result lt in
    let is : length c.child-item.result.under ≡ length (get_or ks c.loop-child.child-index c.child-item.result).under = ap (λ (k : Child). length k.under) c.child-item.is in
    (omega (arith, le, is, c.decreases), (within.0, within.1))

pub copy_children-loop-child-preserved : goal.copy_children-loop-child-preserved
copy_children-loop-child-preserved g t c = copied_more c.args.children.now c.loop-child.copies.items c.push.new.self.items c.loop-child.child-index c.child-item.result c.in_ok-copy_node.field-0 c.loop-child-test.true
    (c.in_ok-copy_node.ensures ∙ c.child-item.is) c.in_ok-push.ensures.items c.loop-child.invariant

pub copy_children-returns : goal.copy_children-returns
copy_children-returns g t c = copied_all c.args.children.now c.loop-child.copies.items c.loop-child.child-index c.loop-child-test.false c.loop-child.invariant

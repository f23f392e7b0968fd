use Rattle.std.proofs.Common.{refl, sym, ap, ◌∙◌, subst, ◌≡◌, ◌<◌, ◌∷◌, ◌++◌, [], length, None, IsSome, arith}
use Rattle.std.specs.List.{remove}
use Rattle.dm_tree.specs.Trees.{File}
use Rattle.dm_tree.specs.Children.{Child, look, IsRising}
use Rattle.dm_tree.specs.Nested.{entry_of, under_of, IsValid}
use Rattle.dm_tree.specs.Walks.{Grafts, nothing}
use Rattle.dm_tree.proofs.Children.{look_in, find-flatten, child_at-remove, rising-remove, rising-set, grafts-child}
use Rattle.dm_tree.proofs.Adds.{dir_child, leaf_child, seen}
use Rattle.dm_tree.proofs.Steps.{no_rest, some_rest, at_of, opened, look_gap, look_dir, look_text, not_there, grafts_dir}
use Rattle.dm_tree.proofs.Plain.{none_some}
use Rattle.dm_tree.proofs.node.+cut.Goals as goal

pub unreachable-requires-in_default-place : goal.unreachable-requires-in_default-place
unreachable-requires-in_default-place g t c =
    not_there _ (look_gap c.in-Some.name.now _ c.args.children.now.items _ c.in_default-place.field-0 c.args.path.now c.in-Some.rest.now c.requires.rising c.as_slice.ensures c.deref.ensures.value c.in_default-place.ensures.absent c.in-Some.ensures.cases.0) c.requires.there

pub returns-then-is_empty-clause-rising : goal.returns-then-is_empty-clause-rising
returns-then-is_empty-clause-rising g t c = subst IsRising (sym c.remove-child.ensures.items) (rising-remove c.args.children.now.items c.in-Ok.i c.requires.rising)

pub returns-then-is_empty-clause-cut : goal.returns-then-is_empty-clause-cut
returns-then-is_empty-clause-cut g t c =
    let ks = c.args.children.now.items in
    let name = c.in-Some.name.now in
    let at = at_of name _ ks _ c.in-Ok.i c.as_slice.ensures c.deref.ensures.value c.in-Ok.ensures.found in
    let none = no_rest c.in-Some.rest.now (sym c.is_empty.ensures ∙ c.if-is_empty.true) in
    let base : Grafts (look ks) (look (remove ks c.in-Ok.i)) (name ∷ []) nothing = grafts-child ks (remove ks c.in-Ok.i) name None [] nothing c.requires.rising (rising-remove ks c.in-Ok.i c.requires.rising) (child_at-remove name ks c.in-Ok.i c.requires.rising at) (λ q. refl) (λ q h. absurd (h (q, refl))) in
    subst (λ l. Grafts (look ks) (look l) c.args.path.now nothing) (sym c.remove-child.ensures.items)
    (subst (λ p. Grafts (look ks) (look (remove ks c.in-Ok.i)) p nothing) (sym (c.in-Some.ensures.cases.0 ∙ ap (λ r. name ∷ r) none)) base)

pub returns-then-is_empty-clause-part : goal.returns-then-is_empty-clause-part
returns-then-is_empty-clause-part g t c = λ q.
    let ks = c.args.children.now.items in
    let name = c.in-Some.name.now in
    let at = at_of name _ ks _ c.in-Ok.i c.as_slice.ensures c.deref.ensures.value c.in-Ok.ensures.found in
    let none = no_rest c.in-Some.rest.now (sym c.is_empty.ensures ∙ c.if-is_empty.true) in
    let k : Child = record { name = c.child.inside.name; entry = entry_of c.child.inside.body; under = under_of c.child.inside.body } in
    let seen_child = seen name ks c.in-Ok.i c.remove-child.result k at c.remove-child.ensures.value c.child.view_is in
    sym (ap (λ p. look ks (p ++ q)) (c.in-Some.ensures.cases.0 ∙ ap (λ r. name ∷ r) none) ∙ find-flatten ks c.requires.rising name q ∙ ap (λ x. look_in x q) seen_child)

pub cut-requires : goal.cut-requires
cut-requires g t c κs within =
    let ks = c.args.children.now.items in
    let name = c.in-Some.name.now in
    let view : dir_child c.child-2.inside.name c.in-Children.inner.items ≡ c.index_mut-child.result.now = rw c.in-Children.is at c.child-2.view_is in
    let o = opened name _ ks _ c.in-Ok.i c.index_mut-child.result.now c.child-2.inside.name c.in-Children.inner.items c.as_slice.ensures c.deref.ensures.value c.in-Ok.ensures.found c.index_mut-child.ensures.value view in
    let there = subst IsSome (look_dir name ks c.in-Ok.i c.child-2.inside.name c.in-Children.inner.items c.args.path.now c.in-Some.rest.now c.requires.rising o c.in-Some.ensures.cases.0) c.requires.there in
    let valid : IsRising c.in-Children.inner.items = subst IsValid c.in-Children.is c.child-2.invariant in
    let some = some_rest c.in-Some.rest.now (sym c.is_empty.ensures ∙ c.if-is_empty.false) in
    let less : length c.in-Some.rest.now < length c.args.path.now = omega (arith, c.in-Some.ensures.cases.1) in
    (omega (arith, less, c.decreases), (within.0, (within.1, (some, (valid, there)))))

pub unreachable-requires-in-Text : goal.unreachable-requires-in-Text
unreachable-requires-in-Text g t c =
    let some = some_rest c.in-Some.rest.now (sym c.is_empty.ensures ∙ c.if-is_empty.false) in
    let view : leaf_child c.child-2.inside.name (File c.in-Text.field-0) ≡ c.index_mut-child.result.now = rw c.in-Text.is at c.child-2.view_is in
    not_there _ (look_text c.in-Some.name.now _ c.args.children.now.items _ c.in-Ok.i c.index_mut-child.result.now c.child-2.inside.name c.in-Text.field-0 c.args.path.now c.in-Some.rest.now c.requires.rising c.as_slice.ensures c.deref.ensures.value c.in-Ok.ensures.found c.index_mut-child.ensures.value view c.in-Some.ensures.cases.0 some) c.requires.there

pub returns-clause-rising : goal.returns-clause-rising
returns-clause-rising g t c =
    let ks = c.args.children.now.items in
    let name = c.in-Some.name.now in
    let view : dir_child c.child-2.inside.name c.in-Children.inner.items ≡ c.index_mut-child.result.now = rw c.in-Children.is at c.child-2.view_is in
    let o = opened name _ ks _ c.in-Ok.i c.index_mut-child.result.now c.child-2.inside.name c.in-Children.inner.items c.as_slice.ensures c.deref.ensures.value c.in-Ok.ensures.found c.index_mut-child.ensures.value view in
    rising-set name ks c.in-Ok.i (dir_child c.child-2.inside.name c.cut.new.children.items) c.requires.rising o.at o.same

pub returns-clause-cut : goal.returns-clause-cut
returns-clause-cut g t c =
    let ks = c.args.children.now.items in
    let name = c.in-Some.name.now in
    let view : dir_child c.child-2.inside.name c.in-Children.inner.items ≡ c.index_mut-child.result.now = rw c.in-Children.is at c.child-2.view_is in
    let o = opened name _ ks _ c.in-Ok.i c.index_mut-child.result.now c.child-2.inside.name c.in-Children.inner.items c.as_slice.ensures c.deref.ensures.value c.in-Ok.ensures.found c.index_mut-child.ensures.value view in
    grafts_dir name ks c.in-Ok.i c.child-2.inside.name c.in-Children.inner.items c.cut.new.children.items c.args.path.now c.in-Some.rest.now nothing c.requires.rising o c.in-Some.ensures.cases.0 c.cut.ensures.cut

pub returns-clause-part : goal.returns-clause-part
returns-clause-part g t c = λ q.
    let ks = c.args.children.now.items in
    let name = c.in-Some.name.now in
    let rest = c.in-Some.rest.now in
    let view : dir_child c.child-2.inside.name c.in-Children.inner.items ≡ c.index_mut-child.result.now = rw c.in-Children.is at c.child-2.view_is in
    let o = opened name _ ks _ c.in-Ok.i c.index_mut-child.result.now c.child-2.inside.name c.in-Children.inner.items c.as_slice.ensures c.deref.ensures.value c.in-Ok.ensures.found c.index_mut-child.ensures.value view in
    c.cut.ensures.part q ∙ sym (look_dir name ks c.in-Ok.i c.child-2.inside.name c.in-Children.inner.items (c.args.path.now ++ q) (rest ++ q) c.requires.rising o (ap (λ p. p ++ q) c.in-Some.ensures.cases.0))

pub place-requires : goal.place-requires
place-requires g t c = subst IsRising (sym c.deref.ensures.value) c.requires.rising

pub index_mut-child-requires : goal.index_mut-child-requires
index_mut-child-requires g t c = subst (λ n. c.in-Ok.i < n) c.deref.ensures.len c.in-Ok.ensures.range

pub unreachable-requires : goal.unreachable-requires
unreachable-requires g t c = none_some _ c.in_default.ensures.cases c.requires.nonempty

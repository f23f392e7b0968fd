use Rattle.std.proofs.Common.{refl, sym, ap, ◌∙◌, subst, ◌≡◌, ◌<◌, ◌∷◌, [], length, set, Some, IsSome, arith}
use Rattle.dm_tree.specs.Trees.{File}
use Rattle.dm_tree.specs.Children.{Child, look, IsRising}
use Rattle.dm_tree.specs.Nested.{entry_of, under_of, IsValid}
use Rattle.dm_tree.specs.Walks.{Grafts, part_of}
use Rattle.dm_tree.proofs.Children.{child_at-set, rising-set, grafts-child}
use Rattle.dm_tree.proofs.Adds.{dir_child, leaf_child, at_name}
use Rattle.dm_tree.proofs.Steps.{no_rest, some_rest, at_of, opened, look_gap, look_dir, look_text, not_there, grafts_dir}
use Rattle.dm_tree.proofs.node.+put.Goals as goal

pub unreachable-requires-in_default-place : goal.unreachable-requires-in_default-place
unreachable-requires-in_default-place g t c =
    not_there _ (look_gap c.in-Some.name.now _ c.args.children.now.items _ c.in_default-place.field-0 c.args.path.now c.in-Some.rest.now c.requires.rising c.as_slice.ensures c.deref.ensures.value c.in_default-place.ensures.absent c.in-Some.ensures.cases.0) c.requires.there

pub returns-then-is_empty-clause-rising : goal.returns-then-is_empty-clause-rising
returns-then-is_empty-clause-rising g t c =
    let ks = c.args.children.now.items in
    let name = c.in-Some.name.now in
    let at = at_of name _ ks _ c.in-Ok.i c.as_slice.ensures c.deref.ensures.value c.in-Ok.ensures.found in
    let same : c.child.inside.name ≡ name = ap (λ x. x.name) (c.child.view_is ∙ c.index_mut-child.ensures.value) ∙ at_name name ks c.in-Ok.i c.index_mut-child.result.now at in
    let k : Child = record { name = c.child.inside.name; entry = entry_of c.args.body; under = under_of c.args.body } in
    rising-set name ks c.in-Ok.i k c.requires.rising at same

pub returns-then-is_empty-clause-put : goal.returns-then-is_empty-clause-put
returns-then-is_empty-clause-put g t c =
    let ks = c.args.children.now.items in
    let name = c.in-Some.name.now in
    let at = at_of name _ ks _ c.in-Ok.i c.as_slice.ensures c.deref.ensures.value c.in-Ok.ensures.found in
    let same : c.child.inside.name ≡ name = ap (λ x. x.name) (c.child.view_is ∙ c.index_mut-child.ensures.value) ∙ at_name name ks c.in-Ok.i c.index_mut-child.result.now at in
    let k : Child = record { name = c.child.inside.name; entry = entry_of c.args.body; under = under_of c.args.body } in
    let none = no_rest c.in-Some.rest.now (sym c.is_empty.ensures ∙ c.if-is_empty.true) in
    subst (λ p. Grafts (look ks) (look (set ks c.in-Ok.i k)) p (part_of c.args.body)) (sym (c.in-Some.ensures.cases.0 ∙ ap (λ r. name ∷ r) none))
    (grafts-child ks (set ks c.in-Ok.i k) name (Some k) [] (part_of c.args.body) c.requires.rising (rising-set name ks c.in-Ok.i k c.requires.rising at same) (child_at-set name ks c.in-Ok.i k at same) (λ q. refl) (λ q h. absurd (h (q, refl))))

pub put-requires : goal.put-requires
put-requires g t c κs within =
    let ks = c.args.children.now.items in
    let name = c.in-Some.name.now in
    let view : dir_child c.child-2.inside.name c.in-Children.inner.items ≡ c.index_mut-child.result.now = rw c.in-Children.is at c.child-2.view_is in
    let o = opened name _ ks _ c.in-Ok.i c.index_mut-child.result.now c.child-2.inside.name c.in-Children.inner.items c.as_slice.ensures c.deref.ensures.value c.in-Ok.ensures.found c.index_mut-child.ensures.value view in
    let there = subst IsSome (look_dir name ks c.in-Ok.i c.child-2.inside.name c.in-Children.inner.items c.args.path.now c.in-Some.rest.now c.requires.rising o c.in-Some.ensures.cases.0) c.requires.there in
    let valid : IsRising c.in-Children.inner.items = subst IsValid c.in-Children.is c.child-2.invariant in
    let some = some_rest c.in-Some.rest.now (sym c.is_empty.ensures ∙ c.if-is_empty.false) in
    let less : length c.in-Some.rest.now < length c.args.path.now = omega (arith, c.in-Some.ensures.cases.1) in
    (omega (arith, less, c.decreases), (within.0, (within.1, (some, (valid, (there, c.requires.valid))))))

pub unreachable-requires-in-Text : goal.unreachable-requires-in-Text
unreachable-requires-in-Text g t c =
    let some = some_rest c.in-Some.rest.now (sym c.is_empty.ensures ∙ c.if-is_empty.false) in
    let view : leaf_child c.child-2.inside.name (File c.in-Text.field-0) ≡ c.index_mut-child.result.now = rw c.in-Text.is at c.child-2.view_is in
    not_there _ (look_text c.in-Some.name.now _ c.args.children.now.items _ c.in-Ok.i c.index_mut-child.result.now c.child-2.inside.name c.in-Text.field-0 c.args.path.now c.in-Some.rest.now c.requires.rising c.as_slice.ensures c.deref.ensures.value c.in-Ok.ensures.found c.index_mut-child.ensures.value view c.in-Some.ensures.cases.0 some) c.requires.there

pub returns-clause-rising : goal.returns-clause-rising
returns-clause-rising g t c =
    let ks = c.args.children.now.items in
    let name = c.in-Some.name.now in
    let view : dir_child c.child-2.inside.name c.in-Children.inner.items ≡ c.index_mut-child.result.now = rw c.in-Children.is at c.child-2.view_is in
    let o = opened name _ ks _ c.in-Ok.i c.index_mut-child.result.now c.child-2.inside.name c.in-Children.inner.items c.as_slice.ensures c.deref.ensures.value c.in-Ok.ensures.found c.index_mut-child.ensures.value view in
    rising-set name ks c.in-Ok.i (dir_child c.child-2.inside.name c.put.new.children.items) c.requires.rising o.at o.same

pub returns-clause-put : goal.returns-clause-put
returns-clause-put g t c =
    let ks = c.args.children.now.items in
    let name = c.in-Some.name.now in
    let view : dir_child c.child-2.inside.name c.in-Children.inner.items ≡ c.index_mut-child.result.now = rw c.in-Children.is at c.child-2.view_is in
    let o = opened name _ ks _ c.in-Ok.i c.index_mut-child.result.now c.child-2.inside.name c.in-Children.inner.items c.as_slice.ensures c.deref.ensures.value c.in-Ok.ensures.found c.index_mut-child.ensures.value view in
    grafts_dir name ks c.in-Ok.i c.child-2.inside.name c.in-Children.inner.items c.put.new.children.items c.args.path.now c.in-Some.rest.now (part_of c.args.body) c.requires.rising o c.in-Some.ensures.cases.0 c.put.ensures.put

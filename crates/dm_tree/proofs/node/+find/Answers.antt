use Rattle.std.proofs.Common.{refl, sym, ap, ◌∙◌, ◌≡◌, ◌∷◌, ◌++◌, []}
use Rattle.dm_tree.specs.Trees.{File}
use Rattle.dm_tree.specs.Children.{Child, look}
use Rattle.dm_tree.specs.Nested.{entry_of, under_of}
use Rattle.dm_tree.proofs.Children.{look_in, find-flatten, child_at-gap}
use Rattle.dm_tree.proofs.Adds.{dir_child, leaf_child, seen, look_file}
use Rattle.dm_tree.proofs.Steps.{if_some, no_rest, some_rest, at_of, gap_of}
use Rattle.dm_tree.proofs.node.+find.Goals as goal

pub returns-in_default-place-clause-value : goal.returns-in_default-place-clause-value
returns-in_default-place-clause-value g t c =
    let name = c.in-Some.name.now in
    let rest = c.in-Some.rest.now in
    let ks = c.args.children.now in
    let gap = gap_of name _ ks _ c.in_default-place.field-0 c.as_slice.ensures refl c.in_default-place.ensures.absent in
    sym (ap (look ks) c.in-Some.ensures.cases.0 ∙ find-flatten ks c.requires.rising name rest ∙ ap (λ x. look_in x rest) (child_at-gap name ks c.in_default-place.field-0 c.requires.rising gap))

pub returns-then-is_empty-clause-value : goal.returns-then-is_empty-clause-value
returns-then-is_empty-clause-value g t c =
    let name = c.in-Some.name.now in
    let ks = c.args.children.now in
    let at = at_of name _ ks _ c.in-Ok.i c.as_slice.ensures refl c.in-Ok.ensures.found in
    let none = no_rest c.in-Some.rest.now (sym c.is_empty.ensures ∙ c.if-is_empty.true) in
    let k : Child = record { name = c.child.inside.name; entry = entry_of c.child.inside.body; under = under_of c.child.inside.body } in
    let seen_child = seen name ks c.in-Ok.i c.index-children-i.result k at c.index-children-i.is c.child.view_is in
    sym (ap (look ks) (c.in-Some.ensures.cases.0 ∙ ap (λ r. name ∷ r) none) ∙ find-flatten ks c.requires.rising name [] ∙ ap (λ x. look_in x []) seen_child)

pub returns-in-Children-clause-value : goal.returns-in-Children-clause-value
returns-in-Children-clause-value g t c =
    let name = c.in-Some.name.now in
    let rest = c.in-Some.rest.now in
    let ks = c.args.children.now in
    let at = at_of name _ ks _ c.in-Ok.i c.as_slice.ensures refl c.in-Ok.ensures.found in
    let view : dir_child c.child.inside.name c.in-Children.inner.items ≡ c.index-children-i.result = rw c.in-Children.is at c.child.view_is in
    let seen_dir = seen name ks c.in-Ok.i c.index-children-i.result (dir_child c.child.inside.name c.in-Children.inner.items) at c.index-children-i.is view in
    c.find.ensures.value ∙ ap (λ l. look l rest) c.deref.ensures.value ∙ sym (ap (look ks) c.in-Some.ensures.cases.0 ∙ find-flatten ks c.requires.rising name rest ∙ ap (λ x. look_in x rest) seen_dir)

pub returns-in-Text-clause-value : goal.returns-in-Text-clause-value
returns-in-Text-clause-value g t c =
    let name = c.in-Some.name.now in
    let rest = c.in-Some.rest.now in
    let ks = c.args.children.now in
    let at = at_of name _ ks _ c.in-Ok.i c.as_slice.ensures refl c.in-Ok.ensures.found in
    let some = some_rest rest (sym c.is_empty.ensures ∙ c.if-is_empty.false) in
    let file = leaf_child c.child.inside.name (File c.in-Text.field-0) in
    let view : file ≡ c.index-children-i.result = rw c.in-Text.is at c.child.view_is in
    let seen_file = seen name ks c.in-Ok.i c.index-children-i.result file at c.index-children-i.is view in
    sym (ap (look ks) c.in-Some.ensures.cases.0 ∙ find-flatten ks c.requires.rising name rest ∙ ap (λ x. look_in x rest) seen_file ∙ look_file c.child.inside.name c.in-Text.field-0 rest some)

pub returns-then-is_empty-clause-part : goal.returns-then-is_empty-clause-part
returns-then-is_empty-clause-part g t c = λ q.
    let name = c.in-Some.name.now in
    let ks = c.args.children.now in
    let at = at_of name _ ks _ c.in-Ok.i c.as_slice.ensures refl c.in-Ok.ensures.found in
    let none = no_rest c.in-Some.rest.now (sym c.is_empty.ensures ∙ c.if-is_empty.true) in
    let k : Child = record { name = c.child.inside.name; entry = entry_of c.child.inside.body; under = under_of c.child.inside.body } in
    let seen_child = seen name ks c.in-Ok.i c.index-children-i.result k at c.index-children-i.is c.child.view_is in
    sym (ap (λ p. look ks (p ++ q)) (c.in-Some.ensures.cases.0 ∙ ap (λ r. name ∷ r) none) ∙ find-flatten ks c.requires.rising name q ∙ ap (λ x. look_in x q) seen_child)

pub returns-in-Children-clause-part : goal.returns-in-Children-clause-part
returns-in-Children-clause-part g t c =
    let name = c.in-Some.name.now in
    let rest = c.in-Some.rest.now in
    let ks = c.args.children.now in
    let at = at_of name _ ks _ c.in-Ok.i c.as_slice.ensures refl c.in-Ok.ensures.found in
    let view : dir_child c.child.inside.name c.in-Children.inner.items ≡ c.index-children-i.result = rw c.in-Children.is at c.child.view_is in
    let seen_dir = seen name ks c.in-Ok.i c.index-children-i.result (dir_child c.child.inside.name c.in-Children.inner.items) at c.index-children-i.is view in
    if_some c.find.result _ _ (λ b h q. h q ∙ ap (λ l. look l (rest ++ q)) c.deref.ensures.value ∙ sym (ap (λ p. look ks (p ++ q)) c.in-Some.ensures.cases.0 ∙ find-flatten ks c.requires.rising name (rest ++ q) ∙ ap (λ x. look_in x (rest ++ q)) seen_dir)) c.find.ensures.part

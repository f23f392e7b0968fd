use Rattle.std.proofs.Common.{refl, sym, ap, subst, ◌∙◌, ◌≡◌, ◌<◌, length, ◌++◌, ◌∷◌, [], nat_eq, Some, None, IsSome}
use Rattle.std.specs.FinMap as map
use Rattle.std.specs.FinMap.{get}
use Rattle.dm_tree.specs.Paths.{Name}
use Rattle.dm_tree.specs.Trees.{Dir}
use Rattle.dm_tree.specs.Children.{look}
use Rattle.dm_tree.specs.Nested.{entry_of}
use Rattle.dm_tree.specs.Walks.{Grafts, nothing, part_of}
use Rattle.dm_tree.proofs.Trees.{get-tree_of}
use Rattle.dm_tree.proofs.Removes.{some_inside, none_inside, removed, removed_map, removes_one}
use Rattle.dm_tree.proofs.tree.Tree.remove_dir.Goals as goal

pub returns-in-None-clause-fault : goal.returns-in-None-clause-fault
returns-in-None-clause-fault g c = sym c.in-None.ensures.value

pub returns-in-Some-Text-clause-fault : goal.returns-in-Some-Text-clause-fault
returns-in-Some-Text-clause-fault g c = (c.in-Some-Text.field-0-0, sym c.in-Some-Text.ensures.value ∙ ap (λ b. Some (entry_of b)) c.in-Some-Text.field-0-is)

pub returns-then-not-is_empty-clause-fault : goal.returns-then-not-is_empty-clause-fault
returns-then-not-is_empty-clause-fault g c =
    let p = c.args.path.now in
    let inner = c.in-Some-Children.children.items in
    let some = some_inside inner (ap (λ k. nat_eq k 0) (sym c.in-Some-Children.children.ok.0) ∙ sym c.is_empty.ensures ∙ c.if-not-is_empty.true) in
    let at : look inner (some.0 ∷ []) ≡ get c.args.self.now (p ++ some.0 ∷ []) = sym (ap (λ b. part_of b (some.0 ∷ [])) c.in-Some-Children.field-0-is) ∙ c.in-Some-Children.ensures.part (some.0 ∷ []) in
    (sym c.in-Some-Children.ensures.value ∙ ap (λ b. Some (entry_of b)) c.in-Some-Children.field-0-is, (some.0, λ none. some.1 (at ∙ none)))

pub cut-requires-clause-there : goal.cut-requires-clause-there
cut-requires-clause-there g c =
    let ks = c.self.inside.children.items in
    let p = c.args.path.now in
    let is_map : look ks ≡ get c.args.self.now = sym (get-tree_of ks) ∙ ap get c.self.view_is in
    let dir : look ks p ≡ Some Dir = ap (λ m. m p) is_map ∙ sym c.in-Some-Children.ensures.value ∙ ap (λ b. Some (entry_of b)) c.in-Some-Children.field-0-is in
    subst IsSome (sym (ap (look ks) c.names.ensures.value ∙ dir)) refl

pub invariant_of-self : goal.invariant_of-self
invariant_of-self g c =
    let ks = c.self.inside.children.items in
    let p = c.args.path.now in
    let cut : Grafts (look ks) (look c.cut.new.children.items) p nothing = subst (λ r. Grafts (look ks) (look c.cut.new.children.items) r nothing) c.names.ensures.value c.cut.ensures.cut in
    removed ks c.cut.new.children.items p c.self.invariant c.cut.ensures.rising c.names.ensures.not_root cut

pub returns-clause-fault : goal.returns-clause-fault
returns-clause-fault g c =
    let inner = c.in-Some-Children.children.items in
    let none = ap (λ k. nat_eq k 0) (sym c.in-Some-Children.children.ok.0) ∙ sym c.is_empty.ensures ∙ c.if-not-is_empty.false in (
      sym c.in-Some-Children.ensures.value ∙ ap (λ b. Some (entry_of b)) c.in-Some-Children.field-0-is,
      λ n. sym (c.in-Some-Children.ensures.part (n ∷ [])) ∙ ap (λ b. part_of b (n ∷ [])) c.in-Some-Children.field-0-is ∙ none_inside inner none n,
    )

pub returns-clause-ok : goal.returns-clause-ok
returns-clause-ok g c =
    let ks = c.self.inside.children.items in
    let p = c.args.path.now in
    let is_map : look ks ≡ get c.args.self.now = sym (get-tree_of ks) ∙ ap get c.self.view_is in
    let inner = c.in-Some-Children.children.items in
    let none = ap (λ k. nat_eq k 0) (sym c.in-Some-Children.children.ok.0) ∙ sym c.is_empty.ensures ∙ c.if-not-is_empty.false in
    let bare : (n : Name) → look ks (p ++ n ∷ []) ≡ None = λ n. ap (λ m. m (p ++ n ∷ [])) is_map ∙ sym (c.in-Some-Children.ensures.part (n ∷ [])) ∙ ap (λ b. part_of b (n ∷ [])) c.in-Some-Children.field-0-is ∙ none_inside inner none n in
    let cut : Grafts (look ks) (look c.cut.new.children.items) p nothing = subst (λ r. Grafts (look ks) (look c.cut.new.children.items) r nothing) c.names.ensures.value c.cut.ensures.cut in
    removed_map ks c.cut.new.children.items p (removes_one (look ks) (look c.cut.new.children.items) p c.self.invariant.lawful cut bare) ∙ ap (λ t. map.remove t p) c.self.view_is

pub cut-requires-clause-nonempty : goal.cut-requires-clause-nonempty
cut-requires-clause-nonempty g c = subst (λ p. 0 < length p) (sym c.names.ensures.value) c.names.ensures.not_root

pub cut-requires-clause-rising : goal.cut-requires-clause-rising
cut-requires-clause-rising g c = c.self.invariant.rising

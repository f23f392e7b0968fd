use Rattle.std.proofs.Common.{Some, None, sym, ap, ◌∙◌}
use Rattle.dm_tree.specs.Trees.{File}
use Rattle.dm_tree.specs.Children.{look}
use Rattle.dm_tree.specs.Nested.{entry_of}
use Rattle.dm_tree.proofs.Steps.{no_rest, is_dir, not_dir}
use Rattle.dm_tree.proofs.node.is_dir.Goals as goal

pub returns-then-is_empty : goal.returns-then-is_empty
returns-then-is_empty g c =
    let none = no_rest c.args.path.now (sym c.is_empty.ensures ∙ c.if-is_empty.true) in
    is_dir _ (sym (ap (look c.args.children.now) none))

pub returns-in-None : goal.returns-in-None
returns-in-None g c = not_dir _ None c.in-None.ensures.value (λ e. cc)

pub returns-in-Some-Text : goal.returns-in-Some-Text
returns-in-Some-Text g c = not_dir _ (Some (File c.in-Some-Text.field-0-0)) (sym (ap (λ b. Some (entry_of b)) c.in-Some-Text.field-0-is) ∙ c.in-Some-Text.ensures.value) (λ e. cc)

pub returns-in-Some-Children : goal.returns-in-Some-Children
returns-in-Some-Children g c = is_dir _ (sym (ap (λ b. Some (entry_of b)) c.in-Some-Children.field-0-is) ∙ c.in-Some-Children.ensures.value)

use Rattle.std.proofs.Common.{◌∙◌, sym, ap, refl}
use Rattle.std.specs.Option.{is_some}
use Rattle.dm_tree.specs.Children.{look}
use Rattle.dm_tree.proofs.Fronts.{refuted}
use Rattle.dm_tree.proofs.Renames.{parent_is, some_map, none_at, some_at}
use Rattle.dm_tree.proofs.rename.add_refused.Goals as goal

pub returns-then-not-is_dir : goal.returns-then-not-is_dir
returns-then-not-is_dir g c = λ h. refuted c.if-not-is_dir.ensures (parent_is (look c.args.children.now) c.args.path.now c.in-Some.above.now c.in-Some.field-0-0.now c.in-Some.ensures.cases.0 h)

pub returns-then-is_some : goal.returns-then-is_some
returns-then-is_some g c = (
  (c.in-Some.above.now, c.in-Some.field-0-0.now, c.in-Some.ensures.cases.0, c.if-not-is_dir.ensures.0 refl),
  some_at (look c.args.children.now c.args.path.now) (ap is_some (sym c.find.ensures.value) ∙ some_map _ c.find.result ∙ sym c.if-is_some.ensures),
)

pub returns : goal.returns
returns g c = (
  (c.in-Some.above.now, c.in-Some.field-0-0.now, c.in-Some.ensures.cases.0, c.if-not-is_dir.ensures.0 refl),
  none_at (look c.args.children.now c.args.path.now) (ap is_some (sym c.find.ensures.value) ∙ some_map _ c.find.result ∙ sym c.if-is_some.ensures),
)

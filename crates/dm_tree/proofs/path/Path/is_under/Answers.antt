use Rattle.std.proofs.Common.{◌∙◌}
use Rattle.dm_tree.proofs.Fronts.{under_at}
use Rattle.dm_tree.proofs.path.Path.is_under.Goals as goal

pub returns : goal.returns
returns g c = under_at _ _ _ _ (c.deref.ensures.value ∙ c.self.view_is) (c.deref-2.ensures.value ∙ c.other.view_is) c.begins.ensures

use Rattle.std.proofs.Common.{◌∙◌, ap, arith, length}
use Rattle.dm_tree.proofs.Fronts.{same_at}
use Rattle.dm_tree.proofs.path.Path.same.Goals as goal

pub returns-then-len : goal.returns-then-len
returns-then-len g c = same_at _ _ _ _ (c.deref.ensures.value ∙ c.self.view_is) (c.deref-then-len.ensures.value ∙ c.other.view_is)
    (omega (arith, ap length c.self.view_is, ap length c.other.view_is, c.self.inside.names.ok.0, c.other.inside.names.ok.0)) c.begins.ensures

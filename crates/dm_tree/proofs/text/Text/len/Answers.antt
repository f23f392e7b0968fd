use Rattle.std.proofs.Common.{◌∙◌}
use Rattle.dm_tree.proofs.Texts.{held, length-held}
use Rattle.dm_tree.proofs.text.Text.len.Goals as goal

pub returns : goal.returns
returns g c = c.len.ensures ∙ c.self.inside.ends.ok.0 ∙ length-held _ _ _ (held _ _ _ c.self.invariant c.self.view_is)

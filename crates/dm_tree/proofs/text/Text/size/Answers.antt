use Rattle.std.proofs.Common.{◌∙◌, ap, length}
use Rattle.dm_tree.proofs.Texts.{held, length-concat}
use Rattle.dm_tree.proofs.text.Text.size.Goals as goal

pub returns : goal.returns
returns g c =
    let h = held _ _ _ c.self.invariant c.self.view_is in
    c.len.ensures ∙ c.self.inside.bytes.ok.0 ∙ ap length h.whole ∙ length-concat c.args.self.now

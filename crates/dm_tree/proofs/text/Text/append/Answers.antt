use Rattle.std.proofs.Common.{◌++◌, ◌∙◌, ap}
use Rattle.dm_tree.specs.Texts.{LaidOut, ends_from}
use Rattle.dm_tree.proofs.Texts.{held, valid_of, view_of, holds_append}
use Rattle.dm_tree.proofs.text.Text.append.Goals as goal

appended : (g : _) (c : goal.After-copy_ends g) → LaidOut c.extend_from_slice.new.self.items c.copy_ends.new.ends.items (c.args.self.now ++ c.args.lines.now)
appended g c =
    holds_append _ _ _ (held _ _ _ c.self.invariant c.self.view_is) _ _ c.args.lines.now c.len-begin.result
    (c.in_ok-extend_from_slice.ensures.items ∙ ap (λ x. c.self.inside.bytes.items ++ x) c.bytes.ensures)
    (c.copy_ends.ensures ∙ ap (λ e. e ++ ends_from c.len-begin.result c.args.lines.now) c.reserve.ensures.items) (c.len-begin.ensures ∙ c.self.inside.bytes.ok.0)

pub invariant_of-self-2 : goal.invariant_of-self-2
invariant_of-self-2 g c = valid_of _ _ _ (appended g c)

pub returns-clause-ok : goal.returns-clause-ok
returns-clause-ok g c = view_of _ _ _ (appended g c)

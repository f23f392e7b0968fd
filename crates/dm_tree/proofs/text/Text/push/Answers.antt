use Rattle.std.proofs.Common.{◌++◌, ◌∷◌, [], ◌∙◌, ap}
use Rattle.dm_tree.specs.Texts.{LaidOut}
use Rattle.dm_tree.proofs.Texts.{held, valid_of, view_of, holds_push}
use Rattle.dm_tree.proofs.text.Text.push.Goals as goal

pushed : (g : _) (c : goal.In-Ok g) → LaidOut c.extend_from_slice.new.self.items c.push.new.self.items (c.args.self.now ++ c.args.line.now ∷ [])
pushed g c =
    holds_push _ _ _ (held _ _ _ c.self.invariant c.self.view_is) _ _ c.args.line.now c.len.result c.in_ok-extend_from_slice.ensures.items
    (c.in-Ok.ensures.items ∙ ap (λ e. e ++ c.len.result ∷ []) c.reserve.ensures.items) (c.len.ensures ∙ c.extend_from_slice.new.self.ok.0)

pub invariant_of-self-2 : goal.invariant_of-self-2
invariant_of-self-2 g c = valid_of _ _ _ (pushed g c)

pub returns-clause-ok : goal.returns-clause-ok
returns-clause-ok g c = view_of _ _ _ (pushed g c)

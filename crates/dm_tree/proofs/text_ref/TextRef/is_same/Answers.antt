use Rattle.std.proofs.Common.{length, ap, sym, ◌∙◌, IsTrue, false}
use Rattle.std.specs.List.{concat}
use Rattle.dm_tree.proofs.Borrowed.{held_from, length-held_from, same_lines, same_ends, held_behind}
use Rattle.dm_tree.proofs.text_ref.TextRef.is_same.Goals as goal

never : {P : Type 0} → IsTrue false → P
never t = cc

pub returns-then-self-other : goal.returns-then-self-other
returns-then-self-other c =
    let h = held_from _ _ _ _ c.self.invariant c.self.view_is in
    let f = held_from _ _ _ _ c.other.invariant c.other.view_is in
    (never, λ e. absurd (c.if-self-other.true (length-held_from _ _ _ _ h ∙ ap length e ∙ sym (length-held_from _ _ _ _ f))))

pub returns-then-not-is_same : goal.returns-then-not-is_same
returns-then-not-is_same c =
    let h = held_from _ _ _ _ c.self.invariant c.self.view_is in
    let f = held_from _ _ _ _ c.other.invariant c.other.view_is in
    (never, λ e. absurd (let t = c.is_same.ensures.same.1 (h.whole ∙ ap concat e ∙ sym f.whole) in cc))

pub are_same_ends-requires-clause-behind : goal.are_same_ends-requires-clause-behind
are_same_ends-requires-clause-behind c = held_behind _ _ _ _ (held_from _ _ _ _ c.self.invariant c.self.view_is)

pub are_same_ends-requires-clause-others_behind : goal.are_same_ends-requires-clause-others_behind
are_same_ends-requires-clause-others_behind c = held_behind _ _ _ _ (held_from _ _ _ _ c.other.invariant c.other.view_is)

pub returns : goal.returns
returns c =
    let h = held_from _ _ _ _ c.self.invariant c.self.view_is in
    let f = held_from _ _ _ _ c.other.invariant c.other.view_is in
    (λ t. same_lines _ _ _ _ _ _ _ _ h f c.if-self-other.false (c.is_same.ensures.same.0 c.if-not-is_same.false) (c.are_same_ends.ensures.0 t), λ e. c.are_same_ends.ensures.1 (same_ends _ _ _ _ _ _ _ _ h f e))

use Rattle.std.proofs.Common.{rules, ◌≡◌, true, ◌∙◌}
use Rattle.dm_send.proofs.Left.{tried_before}
use Rattle.dm_send.proofs.leaving.would_come.Goals as goal

pub returns-then-branch-clause-square : goal.returns-then-branch-clause-square
returns-then-branch-clause-square g c =
    let yes : c.in_ok-pass_unchanged.field-0 ≡ true = search rules in
    (c.args.before.now, rw c.pass_unchanged.ensures.next (c.in_ok-pass_unchanged.ensures.square yes))

pub returns-clause-square : goal.returns-clause-square
returns-clause-square g c =
    let e = c.in_ok-tried.ensures ∙ c.named.ensures ∙ c.pass_unchanged.ensures.patch in
    tried_before c.in_ok-comes.comes c.args.before.now c.args.patch.now c.in_ok-tried.tried c.commute_named_in_place.new.y c.commute_named_in_place.new.x e
    (rw c.pass_unchanged.ensures.next at c.in_ok-comes.ensures.commutes)

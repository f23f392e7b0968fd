use Rattle.std.proofs.Common.{sym, ◌∙◌}
use Rattle.dm_checkout.specs.Names.{has_obeyed}
use Rattle.dm_checkout.specs.Repositories.{is_head}
use Rattle.dm_checkout.proofs.RepositoryLemmas.{head_why, no_why}
use Rattle.dm_checkout.proofs.refusing.why_unsafe.Goals as goal

pub returns-then-branch-2 : goal.returns-then-branch-2
returns-then-branch-2 g c paths are = head_why (has_obeyed c.args.path.now) (is_head paths c.args.path.now) (sym c.in_ok-has_obeyed.ensures ∙ c.if-branch.false) (sym (c.in_ok-is_head.ensures paths are) ∙ c.if-branch-2.true)

pub returns : goal.returns
returns g c paths are = no_why (has_obeyed c.args.path.now) (is_head paths c.args.path.now) (sym c.in_ok-has_obeyed.ensures ∙ c.if-branch.false) (sym (c.in_ok-is_head.ensures paths are) ∙ c.if-branch-2.false)

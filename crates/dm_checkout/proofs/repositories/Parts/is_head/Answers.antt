use Rattle.std.proofs.Common.{sym, ◌∙◌}
use Rattle.dm_checkout.proofs.RepositoryLemmas.{head_told}
use Rattle.dm_checkout.proofs.repositories.Parts.is_head.Goals as goal

pub returns-then-branch : goal.returns-then-branch
returns-then-branch g c paths are = head_told c.args.self.now paths c.args.path.now c.has_beside.result c.as_str.result.now (sym c.in_ok-is_called.ensures ∙ c.if-branch.true) (c.as_str.ensures.value ∙ c.in_ok-folder.ensures) are c.has_beside.ensures

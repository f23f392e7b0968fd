use Rattle.std.proofs.Common.{◌∙◌, ap, length}
use Rattle.dm_repo.specs.Repositories.{Repository}
use Rattle.dm_c.specs.Calls.{counted}
use Rattle.dm_c.proofs.repository.dm_repo_len.Goals as goal

pub returns-clause-count : goal.returns-clause-count
returns-clause-count c =
    counted c.in-Some.inside.value c.in-Some.ensures.old (c.len.ensures.value ∙ ap (λ (r : Repository). length r.patches) c.deref.ensures) c.number-2.ensures

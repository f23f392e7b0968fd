use Rattle.std.proofs.lemmas.Result.{err_from_is_err_and}
use Rattle.dm_repo.proofs.Keeps.{merge_is_repo}
use Rattle.dm_repo.proofs.weighed.weigh_looked_up.Goals as goal

pub returns-in_err-merged : goal.returns-in_err-merged
returns-in_err-merged g c = λ b e distinct found. let p = err_from_is_err_and c.from_residual.result c.from_residual.ensures.1 in rw (p.1, p.2) (c.in_err-merged.ensures b e found)

pub returns : goal.returns
returns g c = λ b e distinct found.
    let merged = c.in_ok-merged.ensures b e found in
    let m = c.in_ok-merged.merged in
    (merged, record { valid = merge_is_repo c.args.repo.now.patches b c.args.policy m.patches.items m.skipped c.lawful.ensures distinct merged.0; makes = merged.1 })

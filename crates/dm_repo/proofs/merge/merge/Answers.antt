use Rattle.std.proofs.lemmas.Result.{err_from_is_err_and}
use Rattle.dm_repo.proofs.merge.merge.Goals as goal

pub returns-in_err-merging : goal.returns-in_err-merging
returns-in_err-merging g c = λ b full rest_of fits. let p = err_from_is_err_and c.from_residual.result c.from_residual.ensures.1 in rw (p.1, p.2) (c.in_err-merging.ensures c.args.repo.now.patches b full rest_of fits).1

pub returns : goal.returns
returns g c = λ b full rest_of fits. c.append.ensures b c.args.policy full c.args.new.items fits (c.in_ok-merging.ensures c.args.repo.now.patches b full rest_of fits)

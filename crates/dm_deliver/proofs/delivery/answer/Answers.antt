use Rattle.std.proofs.lemmas.Result.{err_from_is_err_and}
use Rattle.dm_deliver.proofs.delivery.answer.Goals as goal

pub returns-in_err-reply-clause-kept_err : goal.returns-in_err-reply-clause-kept_err
returns-in_err-reply-clause-kept_err g c =
    let q = err_from_is_err_and c.from_residual.result c.from_residual.ensures.1 in
    rw (q.1, q.2) c.in_err-reply.ensures.kept_err

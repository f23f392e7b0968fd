use Rattle.std.proofs.lemmas.Result.{err_from_is_err_and}
use Rattle.dm_commands.proofs.SendLemmas.{by_names, by_bundle}
use Rattle.dm_commands.proofs.send.answer_to.Goals as goal

pub returns-in_err-names-clause-err : goal.returns-in_err-names-clause-err
returns-in_err-names-clause-err c =
    let q = err_from_is_err_and c.from_residual.result c.from_residual.ensures.1 in
    rw (q.1, q.2) (by_names c.args.kinds c.args.is_minimal c.args.repo.now.patches c.args.base c.args.theirs c.args.most c.in_err-names.field-0.0 c.in_err-names.ensures.err)

pub returns-in_err-answer-clause-err : goal.returns-in_err-answer-clause-err
returns-in_err-answer-clause-err c =
    let q = err_from_is_err_and c.from_residual-in_err-answer.result c.from_residual-in_err-answer.ensures.1 in
    rw (q.1, q.2) (by_bundle c.args.kinds c.args.is_minimal c.args.repo.now.patches c.args.base c.args.theirs c.args.most c.in_err-answer.field-0.0 c.in_ok-names.names.items
    c.in_ok-names.ensures.ok (rw c.deref.ensures.value at c.in_err-answer.ensures.err))

pub returns-clause-ok : goal.returns-clause-ok
returns-clause-ok c = record {
  names = c.in_ok-names.names.items;
  tells = c.in_ok-names.ensures.ok;
  answers = rw c.deref.ensures.value at c.in_ok-answer.ensures.ok;
}

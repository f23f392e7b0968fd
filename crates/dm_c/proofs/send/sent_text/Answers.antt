use Rattle.std.proofs.lemmas.Result.{err_from_is_err_and}
use Rattle.dm_c.specs.Sending.{no_names, no_bundle}
use Rattle.dm_c.proofs.send.sent_text.Goals as goal

pub returns-in_err-names-clause-err : goal.returns-in_err-names-clause-err
returns-in_err-names-clause-err c =
    let p = err_from_is_err_and c.from_residual.result c.from_residual.ensures.1 in rw (p.1, p.2) (no_names c.in_err-names.ensures.err)

pub returns-in_err-bundle-clause-err : goal.returns-in_err-bundle-clause-err
returns-in_err-bundle-clause-err c =
    let p = err_from_is_err_and c.from_residual-in_err-bundle.result c.from_residual-in_err-bundle.ensures.1 in
    rw (p.1, p.2) (no_bundle c.deref.result.now (rw c.deref.ensures.value c.in_ok-names.ensures.ok) c.in_err-bundle.ensures.err)

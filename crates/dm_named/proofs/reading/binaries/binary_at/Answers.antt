use Rattle.std.proofs.Common.{drop}
use Rattle.std.proofs.lemmas.Result.{err_from_is_err_and}
use Rattle.dm_named.proofs.BinaryLemmas.{new_fault}
use Rattle.dm_named.proofs.reading.binaries.binary_at.Goals as goal

pub returns-in_err-new-clause-err : goal.returns-in_err-new-clause-err
returns-in_err-new-clause-err g c =
    let text = c.args.text.now in
    let p = err_from_is_err_and c.from_residual-in_err-new.result c.from_residual-in_err-new.ensures.1 in
    rw (p.1, p.2) (new_fault _ (drop c.args.at text) _ c.in_ok-old.old (drop c.in_ok-old.mid text) c.in_ok-old.ensures.ok c.in_err-new.ensures.err)

use Rattle.std.proofs.Common.{drop}
use Rattle.std.proofs.lemmas.Result.{err_from_is_err_and}
use Rattle.dm_named.specs.Faults.{preference}
use Rattle.dm_named.proofs.reading.primitives.prim_at.Goals as goal

pub returns-in_err-change-in-ChangePref-clause-err : goal.returns-in_err-change-in-ChangePref-clause-err
returns-in_err-change-in-ChangePref-clause-err g c =
    let text = c.args.text.now in
    let p = err_from_is_err_and c.from_residual.result c.from_residual.ensures.1 in
    rw (p.1, p.2) (preference (drop c.args.at text) (rw c.in-ChangePref.is at c.requires.word) c.in_err-change-in-ChangePref.ensures.err)

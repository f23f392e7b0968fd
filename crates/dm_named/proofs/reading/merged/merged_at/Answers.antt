use Rattle.std.proofs.Common.{drop}
use Rattle.std.proofs.lemmas.Result.{err_from_is_err_and}
use Rattle.dm_named.specs.MergedFaults.{deps, body}
use Rattle.dm_named.proofs.reading.merged.merged_at.Goals as goal

pub returns-in_err-deps-clause-err : goal.returns-in_err-deps-clause-err
returns-in_err-deps-clause-err g c =
    let text = c.args.text.now in
    let p = err_from_is_err_and c.from_residual-in_err-deps.result c.from_residual-in_err-deps.ensures.1 in
    rw (p.1, p.2) (deps c.in_ok-info.info (drop c.in_ok-info.after text) c.in_ok-info.ensures.ok c.in_err-deps.ensures.err)

pub returns-in_err-body-clause-err : goal.returns-in_err-body-clause-err
returns-in_err-body-clause-err g c =
    let text = c.args.text.now in
    let p = err_from_is_err_and c.from_residual-in_err-body.result c.from_residual-in_err-body.ensures.1 in
    rw (p.1, p.2) (body c.in_ok-info.info c.in_ok-deps.deps.items (drop c.in_ok-info.after text) (drop c.in_ok-deps.start text) c.in_ok-info.ensures.ok c.in_ok-deps.ensures.ok c.in_err-body.ensures.err)

pub returns-clause-ok : goal.returns-clause-ok
returns-clause-ok g c =
    let text = c.args.text.now in
    rw c.new.ensures (record { after = drop c.in_ok-info.after text; start = drop c.in_ok-deps.start text; info = c.in_ok-info.ensures.ok; deps = c.in_ok-deps.ensures.ok; body = c.in_ok-body.ensures.ok })

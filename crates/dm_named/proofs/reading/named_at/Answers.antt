use Rattle.std.proofs.Common.{drop}
use Rattle.std.proofs.lemmas.Result.{err_from_is_err_and}
use Rattle.dm_named.specs.Faults.{deps, body}
use Rattle.dm_named.proofs.reading.named_at.Goals as goal

pub returns-in_err-deps-clause-err : goal.returns-in_err-deps-clause-err
returns-in_err-deps-clause-err g c =
    let text = c.args.text.now in
    let p = err_from_is_err_and c.from_residual-in_err-deps.result c.from_residual-in_err-deps.ensures.1 in
    rw (p.1, p.2) (deps c.in_ok-info.info (drop c.in_ok-info.after text) c.in_ok-info.ensures.ok c.in_err-deps.ensures.err)

pub returns-in_err-prims-clause-err : goal.returns-in_err-prims-clause-err
returns-in_err-prims-clause-err g c =
    let text = c.args.text.now in
    let p = err_from_is_err_and c.from_residual-in_err-prims.result c.from_residual-in_err-prims.ensures.1 in
    rw (p.1, p.2) (body c.in_ok-info.info c.in_ok-deps.deps.items (drop c.in_ok-info.after text) (drop c.in_ok-deps.body text) c.in_ok-info.ensures.ok c.in_ok-deps.ensures.ok c.in_err-prims.ensures.err)

pub returns-clause-ok : goal.returns-clause-ok
returns-clause-ok g c =
    let text = c.args.text.now in
    rw c.new.ensures (record { after = drop c.in_ok-info.after text; body = drop c.in_ok-deps.body text; info = c.in_ok-info.ensures.ok; deps = c.in_ok-deps.ensures.ok; prims = c.in_ok-prims.ensures.ok })

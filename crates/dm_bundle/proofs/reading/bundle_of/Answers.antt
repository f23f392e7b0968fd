use Rattle.std.proofs.Common.{drop, arith}
use Rattle.std.proofs.lemmas.Result.{err_from_is_err_and}
use Rattle.dm_bundle.specs.Faults.{after_heading}
use Rattle.dm_bundle.proofs.reading.bundle_of.Goals as goal

pub returns-in_err-bundle-clause-err : goal.returns-in_err-bundle-clause-err
returns-in_err-bundle-clause-err g c =
    let p = err_from_is_err_and c.from_residual.result c.from_residual.ensures.1 in
    rw (p.1, p.2) (λ kind. after_heading kind c.in_err-bundle.ensures.place (omega (arith, c.if-text-limits.false)) (drop c.in-Some.new c.args.text.now) c.in-Some.ensures.some c.in_err-bundle.ensures.err)

pub returns-clause-ok : goal.returns-clause-ok
returns-clause-ok g c =
    let x = c.in_ok-bundle.ensures.ok in
    record { stands = record { new = drop c.in-Some.new c.args.text.now; heading = c.in-Some.ensures.some; sections = x.stands }; behind = x.behind }

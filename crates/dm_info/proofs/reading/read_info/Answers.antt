use Rattle.std.proofs.Common.{◌∙◌, ap, subst, sym, List, ℕ, drop}
use Rattle.std.proofs.lemmas.Result.{err_from_is_err_and}
use Rattle.dm_info.specs.Reading.{Fails, info_at}
use Rattle.dm_info.proofs.Places.{placed, place_is, only_err, turned_err, turned_ok, has_fault, shorter_rest}
use Rattle.dm_info.proofs.reading.read_info.Goals as goal

pub returns-in_err-info-clause-only : goal.returns-in_err-info-clause-only
returns-in_err-info-clause-only g c = λ i next found.
    let p = err_from_is_err_and c.from_residual.result c.from_residual.ensures.1 in
    let e = c.in_err-info.field-0.0 in
    let fails : Fails e (info_at (drop c.args.at c.args.text.now)) = subst (λ (t : List ℕ). Fails e (info_at t)) c.tail_of.ensures c.in_err-info.ensures in
    rw (p.1, p.2) (only_err e c.args.text.now c.args.at i next fails found)

pub returns-in_err-info-clause-fault : goal.returns-in_err-info-clause-fault
returns-in_err-info-clause-fault g c =
    let p = err_from_is_err_and c.from_residual.result c.from_residual.ensures.1 in
    let e = c.in_err-info.field-0.0 in
    let fails : Fails e (info_at (drop c.args.at c.args.text.now)) = subst (λ (t : List ℕ). Fails e (info_at t)) c.tail_of.ensures c.in_err-info.ensures in
    rw (p.1, p.2) (has_fault e (drop c.args.at c.args.text.now) fails)

pub returns-in_err-info-clause-turned : goal.returns-in_err-info-clause-turned
returns-in_err-info-clause-turned g c = λ s.
    let p = err_from_is_err_and c.from_residual.result c.from_residual.ensures.1 in
    let e = c.in_err-info.field-0.0 in
    let fails : Fails e (info_at (drop c.args.at c.args.text.now)) = subst (λ (t : List ℕ). Fails e (info_at t)) c.tail_of.ensures c.in_err-info.ensures in
    rw (p.1, p.2) (turned_err e (drop c.args.at c.args.text.now) fails s)

pub overflow_sub-result : goal.overflow_sub-result
overflow_sub-result g c = shorter_rest c.args.text.now c.args.at c.in_ok-info.info c.in_ok-info.rest.now (ap info_at (sym c.tail_of.ensures) ∙ c.in_ok-info.ensures)

pub returns-clause-found : goal.returns-clause-found
returns-clause-found g c = placed c.args.text.now c.args.at c.in_ok-info.info c.in_ok-info.rest.now (ap info_at (sym c.tail_of.ensures) ∙ c.in_ok-info.ensures)

pub returns-clause-only : goal.returns-clause-only
returns-clause-only g c = λ i next found.
    let same = place_is c.args.text.now c.args.at c.in_ok-info.info i c.in_ok-info.rest.now next (ap info_at (sym c.tail_of.ensures) ∙ c.in_ok-info.ensures) found in
    (sym same.0, sym same.1)

pub returns-clause-turned : goal.returns-clause-turned
returns-clause-turned g c = λ s. absurd (turned_ok (drop c.args.at c.args.text.now) c.in_ok-info.info c.in_ok-info.rest.now (ap info_at (sym c.tail_of.ensures) ∙ c.in_ok-info.ensures) s)

use Rattle.std.proofs.Common.{refl}
use Rattle.std.proofs.lemmas.Result.{err_from_is_err_and}
use Rattle.dm_repo.specs.Folds.{IsStopped}
use Rattle.dm_repo.specs.Refusals.{IsBeforeMerge}
use Rattle.dm_repo.specs.Weighing.{FitStops, RefusesBundle}
use Rattle.dm_repo.specs.declared.policy.Policy.{Policy}
use Rattle.dm_repo.specs.declared.refusal.Refusal.TheVariants.{DoesNotFit}
use Rattle.dm_repo.proofs.RefusalLemmas.{before_merge}
use Rattle.dm_repo.proofs.Steps.{of_place}
use Rattle.dm_repo.proofs.basis.find_fitted.Goals as goal

pub returns-in-Ok : goal.returns-in-Ok
returns-in-Ok g c =
    let basis = rw c.in-Some.is at c.in_ok-basis.ensures in
    let base = basis.2 in
    let fitted = rw c.deref.ensures.value at (c.in-Ok.ensures base.0 base.1) in
    record { front = basis.0; bundle_split = basis.1; base = base.0; folds = base.2; fitted = fitted.0; leads = fitted.2 }

pub returns-in_err-basis : goal.returns-in_err-basis
returns-in_err-basis g c =
    let p = err_from_is_err_and c.from_residual.result c.from_residual.ensures.1 in
    rw (p.1, p.2) (before_merge c.args.repo.now.patches c.args.bundle.now _ c.in_err-basis.ensures.0, c.in_err-basis.ensures.1)

pub returns-in-Err : goal.returns-in-Err
returns-in-Err g c =
    let repo = c.args.repo.now.patches in
    let b = c.args.bundle.now in
    let rest = c.in-Some.basis.rest.items in
    let new = c.in-Some.basis.new.items in
    let basis = rw c.in-Some.is at c.in_ok-basis.ensures in
    let base = basis.2 in
    rw c.does_not_fit.ensures
    (of_place (λ why. IsBeforeMerge repo b why × ((policy : Policy) → RefusesBundle repo b policy why)) DoesNotFit (FitStops IsStopped base.0 new) c.in-Err.stop (tt, λ policy. tt)
    (λ x q. (tt, λ policy. (basis.0, rest, new, basis.1, (base.0, x, refl, base.2, q))))
    (rw c.deref.ensures.value at (c.in-Err.ensures base.0 base.1)))

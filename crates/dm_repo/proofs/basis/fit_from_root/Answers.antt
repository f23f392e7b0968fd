use Rattle.std.proofs.Common.{refl}
use Rattle.std.proofs.lemmas.Result.{err_from_is_err_and}
use Rattle.dm_repo.specs.Folds.{IsStopped}
use Rattle.dm_repo.specs.Weighing.{FitStops, RefusesBundle}
use Rattle.dm_repo.specs.declared.refusal.Refusal.TheVariants.{DoesNotFit}
use Rattle.dm_repo.proofs.Steps.{of_place}
use Rattle.dm_repo.proofs.basis.fit_from_root.Goals as goal

pub returns-in_err-tree : goal.returns-in_err-tree
returns-in_err-tree g c = λ b full split.
    let p = err_from_is_err_and c.from_residual.result c.from_residual.ensures.1 in
    rw (p.1, p.2) (c.in_err-tree.ensures b full c.args.sides.now.new.items split).1

pub returns-in-Ok : goal.returns-in-Ok
returns-in-Ok g c = λ b full split.
    let t = c.in_ok-tree.ensures b full c.args.sides.now.new.items split in
    let last = rw c.deref.ensures.value at (c.in-Ok.ensures t.0 t.1) in
    record { front = _; bundle_split = split; base = t.0; folds = t.2; fitted = last.0; leads = last.2 }

pub returns : goal.returns
returns g c = λ b full split policy.
    let new = c.args.sides.now.new.items in
    let t = c.in_ok-tree.ensures b full new split in
    rw c.does_not_fit.ensures
    (of_place (RefusesBundle c.args.repo.now.patches b policy) DoesNotFit (FitStops IsStopped t.0 new) c.in-Err.stop tt (λ x q. (_, full, new, split, (t.0, x, refl, t.2, q)))
    (rw c.deref.ensures.value at (c.in-Err.ensures t.0 t.1)))

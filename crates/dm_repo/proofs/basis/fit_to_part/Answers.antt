use Rattle.std.proofs.Common.{◌++◌, inl, refl}
use Rattle.dm_repo.specs.Folds.{IsStopped}
use Rattle.dm_repo.specs.Squares.{placed}
use Rattle.dm_repo.specs.Weighing.{FitStops, RefusesBundle}
use Rattle.dm_repo.specs.declared.refusal.Refusal.TheVariants.{DoesNotFit, Full}
use Rattle.dm_repo.proofs.Depths.{front_is_full}
use Rattle.dm_repo.proofs.FrontLemmas.{stops_map}
use Rattle.dm_repo.proofs.Steps.{of_place}
use Rattle.dm_repo.proofs.Tries.{front_fits, front_stopped, new_fits, new_stopped}
use Rattle.dm_repo.proofs.basis.fit_to_part.Goals as goal

pub returns-in-Err : goal.returns-in-Err
returns-in-Err g c = λ repo kept b rest ok k split policy.
    let front = c.args.front.now in
    let new = c.args.new.now in
    let part = c.args.part in
    rw c.full.ensures
    (of_place (RefusesBundle repo b policy) (λ n. Full) (FitStops IsStopped k.folds.start (placed kept ++ front)) c.in-Err.stop tt
    (λ x q. inl (front_is_full repo b x ok split k.folds.is_root q))
    (stops_map _ (λ x f. front_stopped kept front new part k x f) (c.in-Err.ensures k.trial k.is_map)))

pub returns-in-Ok-fit : goal.returns-in-Ok-fit
returns-in-Ok-fit g c = λ repo kept b rest ok k split.
    let front = c.args.front.now in
    let new = c.args.new.now in
    let part = c.args.part in
    let u = c.in-Ok.ensures k.trial k.is_map in
    let f = front_fits kept front new part k u.0 u.2 in
    let w = c.in-Ok-fit.ensures u.0 u.1 in
    let z = new_fits kept front new part k f.0 u.0 w.0 f.2 w.2 in
    record { front = placed kept ++ front; bundle_split = split; base = f.0; folds = f.1; fitted = z.0; leads = z.1 }

pub returns : goal.returns
returns g c = λ repo kept b rest ok k split policy.
    let front = c.args.front.now in
    let new = c.args.new.now in
    let part = c.args.part in
    let u = c.in-Ok.ensures k.trial k.is_map in
    let f = front_fits kept front new part k u.0 u.2 in
    rw c.does_not_fit.ensures
    (of_place (RefusesBundle repo b policy) DoesNotFit (FitStops IsStopped f.0 new) c.in-Err-fit.stop tt
    (λ x q. (placed kept ++ front, rest, new, split, (f.0, x, refl, f.1, q)))
    (stops_map _ (λ x q. new_stopped kept front new part k f.0 u.0 x f.2 q) (c.in-Err-fit.ensures u.0 u.1)))

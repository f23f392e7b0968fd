use Rattle.std.proofs.lemmas.Result.{err_from_is_err_and}
use Rattle.dm_repo.specs.Squares.{patches}
use Rattle.dm_repo.proofs.FrontLemmas.{stops_map}
use Rattle.dm_repo.proofs.TrialLemmas.{stops_alike}
use Rattle.dm_repo.proofs.Tries.{trial_start, tried}
use Rattle.dm_repo.proofs.trial.try_patches.Goals as goal

pub returns-in_err-fit : goal.returns-in_err-fit
returns-in_err-fit g c = λ s e.
    let list = c.args.list.now in
    let paths = c.in_ok-trial.trial.paths.items in
    let r = c.in_ok-trial.ensures in
    let t = trial_start c.args.tree.now c.in_ok-trial.trial.part (patches list) paths r s e in
    let p = err_from_is_err_and c.from_residual-in_err-fit.result c.from_residual-in_err-fit.ensures.1 in
    rw (p.1, p.2) (stops_map _ (λ x f. (stops_alike paths list x s t.0 r.paths.below r.paths.names t.2).1 f) (c.in_err-fit.ensures t.0 t.1))

pub returns : goal.returns
returns g c = λ s e.
    let list = c.args.list.now in
    let paths = c.in_ok-trial.trial.paths.items in
    let part = c.in_ok-trial.trial.part in
    let r = c.in_ok-trial.ensures in
    let t = trial_start c.args.tree.now part (patches list) paths r s e in
    let v = c.in_ok-fit.ensures t.0 t.1 in
    tried c.args.tree.now part c.fit.new.tree (patches list) paths r s t.0 v.0 t.2 v.1 v.2

use Rattle.std.proofs.lemmas.Result.{err_from_is_err_and}
use Rattle.dm_repo.specs.Squares.{placed}
use Rattle.dm_repo.proofs.FrontLemmas.{leads_both, stops_first, stops_second, stops_map}
use Rattle.dm_repo.proofs.Steps.{match_map}
use Rattle.dm_repo.proofs.fit.fit_front.Goals as goal

pub returns-in_err-fit_first : goal.returns-in_err-fit_first
returns-in_err-fit_first g c = λ s e.
    let p = err_from_is_err_and c.from_residual.result c.from_residual.ensures.1 in
    rw (p.1, p.2) (stops_map _ (λ x f. stops_first (placed c.args.kept.now) c.args.copied.now f) (c.in_err-fit_first.ensures s e))

pub returns : goal.returns
returns g c = λ s e.
    let kept = c.args.kept.now in
    let copied = c.args.copied.now in
    let base = c.in_ok-fit_first.ensures s e in
    match_map c.fit.result (c.fit.ensures base.0 base.1) (λ _ v. (v.0, v.1, leads_both kept copied base.2 v.2)) (λ stop q. stops_map stop (λ x f. stops_second kept copied base.2 f) q)

use Rattle.std.proofs.lemmas.Result.{err_from_is_err_and}
use Rattle.dm_repo.proofs.MisfitLemmas.{found_refuses, found_told, none_misfits, nothing_misfits}
use Rattle.dm_repo.proofs.misfit.find_misfit.Goals as goal

pub returns-in_err-basis-clause-refusal : goal.returns-in_err-basis-clause-refusal
returns-in_err-basis-clause-refusal g c = let p = err_from_is_err_and c.from_residual.result c.from_residual.ensures.1 in rw (p.1, p.2) c.in_err-basis.ensures.1

pub returns-in_err-basis-clause-before : goal.returns-in_err-basis-clause-before
returns-in_err-basis-clause-before g c = let p = err_from_is_err_and c.from_residual.result c.from_residual.ensures.1 in rw (p.1, p.2) c.in_err-basis.ensures.0

pub returns-in_default-clause-fits : goal.returns-in_default-clause-fits
returns-in_default-clause-fits g c = nothing_misfits c.args.repo.now.patches c.args.bundle.now (rw c.in_default.is at c.in_ok-basis.ensures)

pub returns-in_err-found-clause-refusal : goal.returns-in_err-found-clause-refusal
returns-in_err-found-clause-refusal g c = let p = err_from_is_err_and c.from_residual-in_err-found.result c.from_residual-in_err-found.ensures.1 in rw (p.1, p.2) (λ policy. tt)

pub returns-in_err-found-clause-before : goal.returns-in_err-found-clause-before
returns-in_err-found-clause-before g c = let p = err_from_is_err_and c.from_residual-in_err-found.result c.from_residual-in_err-found.ensures.1 in rw (p.1, p.2) tt

pub returns : goal.returns
returns g c =
    let repo = c.args.repo.now.patches in
    let b = c.args.bundle.now in
    let basis = rw c.in-Some.is at c.in_ok-basis.ensures in
    let t = c.in-Some.basis in
    let found = c.in_ok-found.found in
    record {
      told = found_told repo b t.tree t.rest.items t.new.items basis found c.in_ok-found.ensures;
      refuses = found_refuses repo b t.tree t.rest.items t.new.items basis found c.in_ok-found.ensures;
      fits = none_misfits repo b t.tree t.rest.items t.new.items basis found c.in_ok-found.ensures;
      refusal = tt;
      before = tt;
    }

use Rattle.std.proofs.lemmas.Result.{err_from_is_err_and}
use Rattle.dm_repo.proofs.OverflowLemmas.{front_refuses, merged_refuses, only_many}
use Rattle.dm_repo.proofs.RefusalLemmas.{front_not_full, merge_not_full}
use Rattle.dm_repo.proofs.overflow.find_overflow.Goals as goal

pub returns-in_err-front-clause-refusal : goal.returns-in_err-front-clause-refusal
returns-in_err-front-clause-refusal g c = let p = err_from_is_err_and c.from_residual.result c.from_residual.ensures.1 in rw (p.1, p.2) (c.in_err-front.ensures.1 c.args.policy)

pub returns-in_err-front-clause-before : goal.returns-in_err-front-clause-before
returns-in_err-front-clause-before g c = let p = err_from_is_err_and c.from_residual.result c.from_residual.ensures.1 in rw (p.1, p.2) (front_not_full c.in_err-front.ensures.0)

pub returns-in-Some-clause-refuses : goal.returns-in-Some-clause-refuses
returns-in-Some-clause-refuses g c = front_refuses c.args.repo.now.patches c.args.bundle.now c.args.policy (rw c.in-Some.is at c.in_ok-front.ensures)

pub returns-in_err-basis-clause-refusal : goal.returns-in_err-basis-clause-refusal
returns-in_err-basis-clause-refusal g c =
    let p = err_from_is_err_and c.from_residual-in_err-basis.result c.from_residual-in_err-basis.ensures.1 in rw (p.1, p.2) (c.in_err-basis.ensures.1 c.args.policy)

pub returns-in_err-basis-clause-before : goal.returns-in_err-basis-clause-before
returns-in_err-basis-clause-before g c =
    let p = err_from_is_err_and c.from_residual-in_err-basis.result c.from_residual-in_err-basis.ensures.1 in
    rw (p.1, p.2) (merge_not_full (rw c.in_default.is at c.in_ok-front.ensures) c.in_err-basis.ensures.0)

pub returns-in_err-misfit-clause-refusal : goal.returns-in_err-misfit-clause-refusal
returns-in_err-misfit-clause-refusal g c =
    let p = err_from_is_err_and c.from_residual-in_err-misfit.result c.from_residual-in_err-misfit.ensures.1 in
    rw (p.1, p.2) (c.in_err-misfit.ensures c.args.bundle.now (rw c.in-Some-2.is at c.in_ok-basis.ensures)).1

pub returns-in_err-misfit-clause-before : goal.returns-in_err-misfit-clause-before
returns-in_err-misfit-clause-before g c =
    let p = err_from_is_err_and c.from_residual-in_err-misfit.result c.from_residual-in_err-misfit.ensures.1 in
    rw (p.1, p.2) (c.in_err-misfit.ensures c.args.bundle.now (rw c.in-Some-2.is at c.in_ok-basis.ensures)).0

pub returns-in-Some-3-clause-told : goal.returns-in-Some-3-clause-told
returns-in-Some-3-clause-told g c = rw c.in-Some-3.is at (c.in_ok-misfit.ensures c.args.bundle.now (rw c.in-Some-2.is at c.in_ok-basis.ensures))

pub returns-in-Some-3-clause-refuses : goal.returns-in-Some-3-clause-refuses
returns-in-Some-3-clause-refuses g c =
    let told = rw c.in-Some-3.is at (c.in_ok-misfit.ensures c.args.bundle.now (rw c.in-Some-2.is at c.in_ok-basis.ensures)) in
    merged_refuses c.args.repo.now.patches c.args.bundle.now c.args.policy told

pub returns-in-None-clause-only : goal.returns-in-None-clause-only
returns-in-None-clause-only g c =
    let merged = rw c.in-None.is at (c.in_ok-misfit.ensures c.args.bundle.now (rw c.in-Some-2.is at c.in_ok-basis.ensures)) in
    only_many c.args.repo.now.patches c.args.bundle.now c.args.policy (rw c.in_default.is at c.in_ok-front.ensures) merged

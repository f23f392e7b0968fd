use Rattle.std.proofs.Common.{arith}
use Rattle.std.proofs.lemmas.Result.{err_from_is_err_and}
use Rattle.dm_mirror.proofs.ListLemmas.{one_more}
use Rattle.dm_mirror.proofs.PlanLemmas.{bad_start, starts_next}
use Rattle.dm_mirror.proofs.plan.starts.starts_of.Goals as goal

pub returns-in_err-start_of-clause-err : goal.returns-in_err-start_of-clause-err
returns-in_err-start_of-clause-err c =
    let p = err_from_is_err_and c.from_residual-in_err-start_of.result c.from_residual-in_err-start_of.ensures.1 in
    rw (p.1, p.2) (bad_start c.args.limits (λ base. base.now) c.args.bases.now c.loop-number.number _ _ _ c.loop-number-test.true c.loop-number.invariant.starts c.in_err-start_of.ensures.err)

pub loop-number-preserved : goal.loop-number-preserved
loop-number-preserved c =
    let inv = c.loop-number.invariant in
    let made = c.push_back_reserved.ensures in
    record {
      starts = starts_next c.args.limits (λ base. base.now) (λ repo. repo.patches) c.args.bases.now c.loop-number.number _ c.loop-number.repos.items _ c.in_ok-start_of.field-0 c.loop-number-test.true made.items c.in_ok-start_of.ensures.ok inv.starts;
      count = omega (arith, inv.count, one_more c.loop-number.repos.items _ _ made.items);
      fits = omega (arith, inv.fits, made.capacity);
    }

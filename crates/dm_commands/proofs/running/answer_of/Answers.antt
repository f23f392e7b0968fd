use Rattle.std.proofs.Common.{map, subst, ◌∙◌, ⊎_elim, inl, inr}
use Rattle.std.proofs.lemmas.Result.{err_from_is_err_and}
use Rattle.dm_mirror.specs.Plans.{plan_starts, IsPlannable}
use Rattle.dm_commands.proofs.RunLemmas.{bad_plan, run_of, same_lists}
use Rattle.dm_commands.proofs.running.answer_of.Goals as goal

pub returns-in_err-plan-clause-bad_plan : goal.returns-in_err-plan-clause-bad_plan
returns-in_err-plan-clause-bad_plan g c =
    let q = err_from_is_err_and c.from_residual-in_err-plan.result c.from_residual-in_err-plan.ensures.1 in
    let texts = same_lists _ _ _ _ c.deref.ensures.value c.in_ok-texts.ensures in
    rw q.1 (bad_plan c.args.bases.limits _ _ (map (λ base. base.now) c.args.bases.texts.now) c.args.policies.now c.args.bound c.in_err-plan.field-0.0 q.0 texts c.in_err-plan.ensures.fault (⊎_elim (λ x. inl x.1) (λ x. inr x.1) q.2))

pub returns-clause-ok : goal.returns-clause-ok
returns-clause-ok g c =
    let plan = c.in_ok-plan.plan in
    let lists = same_lists _ _ _ _ c.deref.ensures.value c.in_ok-texts.ensures in
    let texts = c.in_ok-plan.ensures.texts ∙ lists in
    record {
      plannable = subst (λ ts. IsPlannable ts (map (λ base. base.now) c.args.bases.texts.now) c.args.policies.now c.args.bound) lists c.in_ok-plan.ensures.valid;
      starts = plan_starts plan;
      are_starts = c.in_ok-plan.ensures.starts;
      outcome = c.in_ok-outcome.outcome;
      is_run = run_of _ _ _ _ _ _ _ _ texts c.in_ok-plan.ensures.policies c.in_ok-plan.ensures.bound c.in_ok-outcome.ensures;
      report = c.in_ok-text.ensures.0;
      is_report = c.in_ok-text.ensures.1;
      bytes = c.in_ok-text.ensures.2;
      exit = c.status_of_run-status.ensures;
    }

pub returns-clause-told : goal.returns-clause-told
returns-clause-told g c =
    let plan = c.in_ok-plan.plan in
    let texts = c.in_ok-plan.ensures.texts ∙ same_lists _ _ _ _ c.deref.ensures.value c.in_ok-texts.ensures in
    record {
      starts = plan_starts plan;
      are_starts = c.in_ok-plan.ensures.starts;
      is_run = run_of _ _ _ _ _ _ _ _ texts c.in_ok-plan.ensures.policies c.in_ok-plan.ensures.bound c.in_ok-outcome.ensures;
      exit = c.status_of_run-status.ensures;
    }

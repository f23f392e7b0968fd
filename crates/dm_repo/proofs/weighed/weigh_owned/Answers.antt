use Rattle.std.proofs.Common.{ap, length, sym, ◌∙◌}
use Rattle.std.proofs.lemmas.List.{length-map}
use Rattle.std.proofs.lemmas.Result.{err_from_is_err_and}
use Rattle.dm_repo.specs.Weighed.{LeavesRepo, Weighs}
use Rattle.dm_repo.specs.Weighing.{RefusesBundle}
use Rattle.dm_repo.proofs.Steps.{clauses}
use Rattle.dm_repo.proofs.weighed.weigh_owned.Goals as goal

pub returns-in_err-marks-clause-refusal : goal.returns-in_err-marks-clause-refusal
returns-in_err-marks-clause-refusal g c = let p = err_from_is_err_and c.from_residual.result c.from_residual.ensures.1 in rw (p.1, p.2) (c.in_err-marks.ensures.1 c.args.policy)

pub returns : goal.returns
returns g c =
    let repo = c.args.repo.now.patches in
    let told = c.weigh_looked_up.ensures c.args.bundle (sym c.into_new_patches.ensures) c.names_are_distinct.ensures (rw c.in-Some.is at c.in_ok-marks.ensures) in
    let w = clauses (Weighs repo c.args.bundle c.args.policy) (LeavesRepo repo) (RefusesBundle repo c.args.bundle c.args.policy) c.weigh_looked_up.result told in
    record { weighed = w.0; refusal = w.1; leaves_repo = w.2 }

pub weigh_looked_up-requires-clause-common : goal.weigh_looked_up-requires-clause-common
weigh_looked_up-requires-clause-common g c =
    let found = rw c.in-Some.is at c.in_ok-marks.ensures in
    found.marked.common_is.length_is ∙ length-map c.args.repo.now.patches (λ p. p.info)

pub weigh_looked_up-requires-clause-held : goal.weigh_looked_up-requires-clause-held
weigh_looked_up-requires-clause-held g c =
    let found = rw c.in-Some.is at c.in_ok-marks.ensures in
    found.marked.held_is.length_is ∙ length-map c.args.bundle.patches (λ p. p.info) ∙ ap length (sym c.into_new_patches.ensures)

pub returns-in_default-clause-weighed : goal.returns-in_default-clause-weighed
returns-in_default-clause-weighed g c = rw c.in_default.is at c.in_ok-marks.ensures

use Rattle.std.proofs.Common.{◌∙◌, refl, sym, true≢false}
use Rattle.dm_deliver.specs.Answering.{HasDateFaultIn, PassesDatesIn, PassesRuleIn}
use Rattle.dm_deliver.proofs.delivery.refusal_of_rules.Goals as goal

pub returns-in-Some-2-clause-some : goal.returns-in-Some-2-clause-some
returns-in-Some-2-clause-some c =
    let passes : PassesRuleIn c.args.kinds c.args.rule c.args.text.now = rw c.with_kinds-limits.ensures at (rw c.in_default.is at c.in_ok-fault.ensures.none) in
    let fault : HasDateFaultIn c.args.kinds c.args.rule c.args.text.now c.in-Some-2.at = rw c.with_kinds-limits.ensures at (rw c.in-Some-2.is at c.in_ok-at.ensures.some) in
    λ policy. (passes, fault, refl)

pub returns-then-branch-clause-some : goal.returns-then-branch-clause-some
returns-then-branch-clause-some c =
    let passes : PassesRuleIn c.args.kinds c.args.rule c.args.text.now = rw c.with_kinds-limits.ensures at (rw c.in_default.is at c.in_ok-fault.ensures.none) in
    let dates : PassesDatesIn c.args.kinds c.args.rule c.args.text.now = rw c.with_kinds-limits.ensures at (rw c.in_default-2.is at c.in_ok-at.ensures.none) in
    λ policy. (passes, dates, c.in_ok-text_is_before_base.ensures.0 c.if-branch.true, refl)

pub returns-clause-none : goal.returns-clause-none
returns-clause-none c =
    let passes : PassesRuleIn c.args.kinds c.args.rule c.args.text.now = rw c.with_kinds-limits.ensures at (rw c.in_default.is at c.in_ok-fault.ensures.none) in
    let dates : PassesDatesIn c.args.kinds c.args.rule c.args.text.now = rw c.with_kinds-limits.ensures at (rw c.in_default-2.is at c.in_ok-at.ensures.none) in
    (passes, dates, λ before. true≢false (sym (c.in_ok-text_is_before_base.ensures.1 before) ∙ c.if-branch.false))

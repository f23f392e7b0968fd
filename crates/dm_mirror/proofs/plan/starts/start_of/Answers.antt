use Rattle.std.proofs.Common.{List, refl, subst}
use Rattle.dm_tree.proofs.Fronts.{refuted}
use Rattle.dm_named.specs.Patches.{Patch}
use Rattle.dm_repo.specs.declared.policy.Policy.TheVariants.{Refuse}
use Rattle.dm_scratch.specs.Taking.{TakesWithin}
use Rattle.dm_mirror.specs.Plans.{taken}
use Rattle.dm_mirror.proofs.PlanLemmas.{filled, refuses_start}
use Rattle.dm_mirror.proofs.plan.starts.start_of.Goals as goal

pub returns-then-is_accepted-clause-ok : goal.returns-then-is_accepted-clause-ok
returns-then-is_accepted-clause-ok c =
    let takes = subst (λ (r : List Patch). TakesWithin c.args.limits r c.args.base.now Refuse c.take_within-verdict.result c.take_within-verdict.new.repo.patches) c.new-repo.ensures c.take_within-verdict.ensures in
    taken c.take_within-verdict.result (c.if-is_accepted.ensures.0 refl) takes

pub returns-clause-err : goal.returns-clause-err
returns-clause-err c =
    let takes = subst (λ (r : List Patch). TakesWithin c.args.limits r c.args.base.now Refuse c.take_within-verdict.result c.take_within-verdict.new.repo.patches) c.new-repo.ensures c.take_within-verdict.ensures in
    refuses_start c.args.limits c.args.mirror c.args.base.now c.take_within-verdict.result c.take_within-verdict.new.repo.patches _ (filled c.args.base.now c.if-is_empty.ensures) (refuted c.if-is_accepted.ensures) takes c.of_base.ensures

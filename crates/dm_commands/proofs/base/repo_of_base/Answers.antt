use Rattle.std.proofs.Common.{List, refl, subst}
use Rattle.dm_tree.proofs.Fronts.{refuted}
use Rattle.dm_named.specs.Patches.{Patch}
use Rattle.dm_repo.specs.declared.policy.Policy.TheVariants.{Refuse}
use Rattle.dm_scratch.specs.Taking.{TakesWithin}
use Rattle.dm_commands.proofs.AnswerLemmas.{refuses_base}
use Rattle.dm_commands.proofs.base.repo_of_base.Goals as goal

pub returns-then-is_accepted-clause-ok : goal.returns-then-is_accepted-clause-ok
returns-then-is_accepted-clause-ok c =
    let takes = subst (λ (r : List Patch). TakesWithin c.args.base.limits r c.args.base.text.now Refuse c.take_within-verdict.result c.take_within-verdict.new.repo.patches) c.new-repo.ensures c.take_within-verdict.ensures in
    (record { verdict = c.take_within-verdict.result; accepted = c.if-is_accepted.ensures.0 refl; takes = takes })

pub returns-clause-err : goal.returns-clause-err
returns-clause-err c =
    let takes = subst (λ (r : List Patch). TakesWithin c.args.base.limits r c.args.base.text.now Refuse c.take_within-verdict.result c.take_within-verdict.new.repo.patches) c.new-repo.ensures c.take_within-verdict.ensures in
    (refuses_base c.args.base.limits c.args.base.text.now c.take_within-verdict.result c.take_within-verdict.new.repo.patches _ (refuted c.if-is_accepted.ensures) takes c.of_base.ensures)

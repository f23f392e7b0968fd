use Rattle.dm_commands.proofs.AlikeLemmas.{bases_are, cut_as, fails_as, policies_are, ran_as, writes_as}
use Rattle.dm_commands.proofs.alike.run_mirrors.Goals as goal

pub returns-clause-ok : goal.returns-clause-ok
returns-clause-ok g c =
    writes_as _ _ _ c.args.mirrors _ _ _ _
    (bases_are _ _ _ _ c.args.mirrors.base.text c.deref.ensures.value (c.in_ok-texts.ensures.items_if_clones_equal (λ y e. e)) c.min-count.ensures)
    (policies_are _ _ _ _ c.args.mirrors.policy c.deref-2.ensures.value (c.in_ok-policies.ensures.items_if_clones_equal (λ y e. e)) c.min-count.ensures)
    c.run_over.ensures.ok

pub returns-clause-told : goal.returns-clause-told
returns-clause-told g c =
    ran_as _ _ c.args.mirrors _ _
    (bases_are _ _ _ _ c.args.mirrors.base.text c.deref.ensures.value (c.in_ok-texts.ensures.items_if_clones_equal (λ y e. e)) c.min-count.ensures)
    (policies_are _ _ _ _ c.args.mirrors.policy c.deref-2.ensures.value (c.in_ok-policies.ensures.items_if_clones_equal (λ y e. e)) c.min-count.ensures)
    c.run_over.ensures.told

pub returns-clause-bad_plan : goal.returns-clause-bad_plan
returns-clause-bad_plan g c =
    fails_as _ _ c.args.mirrors _ _
    (bases_are _ _ _ _ c.args.mirrors.base.text c.deref.ensures.value (c.in_ok-texts.ensures.items_if_clones_equal (λ y e. e)) c.min-count.ensures)
    (policies_are _ _ _ _ c.args.mirrors.policy c.deref-2.ensures.value (c.in_ok-policies.ensures.items_if_clones_equal (λ y e. e)) c.min-count.ensures)
    c.run_over.ensures.bad_plan

pub returns-clause-prefix : goal.returns-clause-prefix
returns-clause-prefix g c =
    cut_as _ _ _ c.args.mirrors _ _ _ _
    (bases_are _ _ _ _ c.args.mirrors.base.text c.deref.ensures.value (c.in_ok-texts.ensures.items_if_clones_equal (λ y e. e)) c.min-count.ensures)
    (policies_are _ _ _ _ c.args.mirrors.policy c.deref-2.ensures.value (c.in_ok-policies.ensures.items_if_clones_equal (λ y e. e)) c.min-count.ensures)
    c.run_over.ensures.prefix

use Rattle.std.proofs.Common.{subst, take}
use Rattle.std.proofs.lemmas.List.{take_all}
use Rattle.dm_repo.specs.Glances.{AreGlancesOf}
use Rattle.dm_repo.proofs.GlanceLemmas.{glances_more}
use Rattle.dm_repo.proofs.repo.glances_of.Goals as goal

pub loop-patch-preserved : goal.loop-patch-preserved
loop-patch-preserved g c =
    let patches = c.args.patches.now in
    let x = c.patch-item.result in
    rw c.in_ok-push.ensures.items
    (glances_more patches c.loop-patch.patch-index x c.loop-patch.glances.items c.glance-seen.result c.loop-patch-test.true c.patch-item.is c.loop-patch.invariant
    (c.glance-seen.ensures x.prims (rw c.prims.ensures at c.in_ok-touched.ensures)))

pub returns : goal.returns
returns g c = subst (λ xs. AreGlancesOf xs c.loop-patch.glances.items) (take_all c.loop-patch.patch-index c.args.patches.now c.loop-patch-test.false) c.loop-patch.invariant

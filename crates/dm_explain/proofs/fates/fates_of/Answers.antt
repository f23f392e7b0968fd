use Rattle.std.proofs.lemmas.List.{take_all}
use Rattle.dm_explain.proofs.FateLemmas.{next_held, next_taken, next_skipped, infos_more, lent_more}
use Rattle.dm_explain.proofs.fates.fates_of.Goals as goal
use Rattle.dm_explain.proofs.fates.fates_of.Goals.{in-Held+in_ok-push-in-Held, in-Taken+in_ok-push-in-Taken, in-Skipped+in_ok-push-in-Skipped}

pub loop-patch-preserved : goal.loop-patch-preserved
loop-patch-preserved c =
    let more = infos_more c.new_patches-patch-items.result.now c.loop-patch.patch-index c.patch-item.result c.info-info.result.now c.loop-patch-test.true c.patch-item.is c.info-info.ensures in
    elim c.match-fate_of.branch [
      | in-Held+in_ok-push-in-Held w ↦ rw (more, w.held-is, w.taken-is, w.skipped-is, lent_more c.loop-patch.held.items c.info-info.result w.in_ok-push-in-Held.ensures.items)
          (next_held c.args.repo.now.patches c.args.before _ _ _ _ c.info-info.result.now (rw w.in-Held.is at c.fate_of.ensures) c.loop-patch.invariant)
      | in-Taken+in_ok-push-in-Taken w ↦ rw (more, w.held-is, w.taken-is, w.skipped-is, lent_more c.loop-patch.taken.items c.info-info.result w.in_ok-push-in-Taken.ensures.items)
          (next_taken c.args.repo.now.patches c.args.before _ _ _ _ c.info-info.result.now (rw w.in-Taken.is at c.fate_of.ensures) c.loop-patch.invariant)
      | in-Skipped+in_ok-push-in-Skipped w ↦ rw (more, w.held-is, w.taken-is, w.skipped-is, lent_more c.loop-patch.skipped.items c.info-info.result w.in_ok-push-in-Skipped.ensures.items)
          (next_skipped c.args.repo.now.patches c.args.before _ _ _ _ c.info-info.result.now (rw w.in-Skipped.is at c.fate_of.ensures) c.loop-patch.invariant)
    ]

pub returns : goal.returns
returns c =
    let u = rw (take_all c.loop-patch.patch-index c.new_patches-patch-items.result.now c.loop-patch-test.false, c.new_patches-patch-items.ensures.value) at c.loop-patch.invariant in
    record { held = u.held_is; taken = u.taken_is; skipped = u.skipped_is }

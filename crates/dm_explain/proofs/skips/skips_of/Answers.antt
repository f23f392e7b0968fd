use Rattle.dm_explain.proofs.SkipLemmas.{next_named, next_nowhere}
use Rattle.dm_explain.proofs.skips.skips_of.Goals as goal
use Rattle.dm_explain.proofs.skips.skips_of.Goals.{in-Some+in_ok-push-in-Some, in-None}

pub loop-skip-preserved : goal.loop-skip-preserved
loop-skip-preserved c =
    let repo = c.args.repo.now.patches in
    let b = c.args.bundle.now in
    elim c.match-names_at.branch [
      | in-Some+in_ok-push-in-Some w ↦ rw (w.list-is, w.in_ok-push-in-Some.ensures.items)
          (next_named repo b c.args.skips.now c.loop-skip.skip-index _ c.loop-skip.list.items _ c.loop-skip-test.true c.loop-skip.invariant (rw w.in-Some.is at c.names_at.ensures))
      | in-None w ↦ rw w.list-is (next_nowhere repo b c.args.skips.now c.loop-skip.skip-index _ c.loop-skip.list.items c.loop-skip-test.true c.loop-skip.invariant (rw w.in-None.is at c.names_at.ensures))
    ]

use Rattle.dm_bundle.specs.Patches.{infos_of}
use Rattle.dm_repo.specs.Repositories.{Holds}
use Rattle.dm_repo.proofs.Members.{from_at}
use Rattle.dm_explain.proofs.ChoiceLemmas.{chosen_more, left_more}
use Rattle.dm_explain.proofs.FateLemmas.{lent_more, names_more}
use Rattle.dm_explain.proofs.account.unheld.Goals as goal
use Rattle.dm_explain.proofs.account.unheld.Goals.{in-None+in_ok-push-in-None, in-Some}

pub loop-name-preserved : goal.loop-name-preserved
loop-name-preserved c =
    let repo = c.args.repo.now.patches in
    let more = names_more c.args.names.now c.loop-name.name-index c.name-item.result c.loop-name-test.true c.name-item.is in
    elim c.match-position.branch [
      | in-None+in_ok-push-in-None w ↦ rw (more, w.missing-is, lent_more c.loop-name.missing.items _ w.in_ok-push-in-None.ensures.items)
          (chosen_more (λ i. Holds repo i → ⊥) _ _ c.name-item.result c.loop-name.invariant (rw w.in-None.is at c.position.ensures))
      | in-Some w ↦ rw (more, w.missing-is) (left_more (λ i. Holds repo i → ⊥) _ _ c.name-item.result c.loop-name.invariant (λ n. n (from_at (infos_of repo) w.in-Some.field-0 (rw w.in-Some.is at c.position.ensures))))
    ]

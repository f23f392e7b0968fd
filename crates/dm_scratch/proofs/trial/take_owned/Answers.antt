use Rattle.dm_scratch.proofs.CountLemmas.{taken_by_counts}
use Rattle.dm_scratch.proofs.trial.take_owned.Goals as goal

pub append_owned-requires : goal.append_owned-requires
append_owned-requires g c = record { weighed = rw c.in-Merged.is at c.in_ok-weigh_owned.ensures.leaves_repo }

pub returns-in_ok-count-in-Merged-clause-ok : goal.returns-in_ok-count-in-Merged-clause-ok
returns-in_ok-count-in-Merged-clause-ok g c =
    let merged = c.in-Merged.merged in
    let w = rw c.in-Merged.is at c.in_ok-weigh_owned.ensures.weighed in
    taken_by_counts c.args.repo.now.patches c.args.bundle c.args.policy merged.patches.items merged.skipped c.in_ok-count-in-Merged.count c.of_counts.result c.append_owned.new.self.patches
    w.0 c.in_ok-count-in-Merged.ensures.count c.in_ok-count-in-Merged.ensures.patches c.of_counts.ensures

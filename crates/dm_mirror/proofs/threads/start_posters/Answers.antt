use Rattle.std.proofs.Common.{arith}
use Rattle.dm_mirror.proofs.ListLemmas.{none_left, map_step, map_end, room_more, count_more}
use Rattle.dm_mirror.proofs.threads.start_posters.Goals as goal

pub loop-job-preserved : goal.loop-job-preserved
loop-job-preserved g c =
    let inv = c.loop-job.invariant in
    record {
      jobs = map_step (λ thread. thread.promise.0.value) c.loop-job.threads.items _ c.in_ok-thread.thread c.loop-job.jobs.items _ _ c.in-Some.job c.in-Some.ensures.items c.push_back_reserved.ensures.items c.in_ok-thread.ensures.handle inv.jobs;
      count = count_more c.loop-job.jobs.items _ _ c.loop-job.threads.items _ _ _ c.in-Some.ensures.items c.push_back_reserved.ensures.items inv.count;
      fits = room_more c.loop-job.jobs.items _ _ c.loop-job.threads.items _ _ _ _ c.in-Some.ensures.items c.push_back_reserved.ensures.items c.push_back_reserved.ensures.capacity inv.fits;
    }

pub returns-clause-jobs : goal.returns-clause-jobs
returns-clause-jobs g c =
    map_end (λ thread. thread.promise.0.value) c.loop-job.threads.items c.loop-job.jobs.items _ (none_left c.loop-job.jobs.items (omega (arith, c.in_default.ensures.cases))) c.loop-job.invariant.jobs

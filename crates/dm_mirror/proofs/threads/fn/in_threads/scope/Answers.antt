use Rattle.dm_mirror.specs.Jobs.{DoesPost, DoesTake}
use Rattle.dm_mirror.proofs.ListLemmas.{each_jobs}
use Rattle.dm_mirror.proofs.threads.fn.in_threads.scope.Goals as goal

pub returns : goal.returns
returns g c = (
  (
    each_jobs (λ job row. DoesPost job row.items) (λ thread. thread.promise.0.value) c.in-Ok.posting.items c.in_ok-rows.rows.items c.captures.posters.items c.in-Ok.ensures.jobs c.in_ok-rows.ensures.done,
    each_jobs DoesTake (λ thread. thread.promise.0.value) c.in-Ok-start_mirrors.taking.items c.in_ok-kept.kept.items c.captures.mirrors.items c.in-Ok-start_mirrors.ensures.jobs c.in_ok-kept.ensures,
  ),
  c.in_ok-rows.ensures.fits,
)

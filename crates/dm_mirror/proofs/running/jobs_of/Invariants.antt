use Rattle.std.proofs.Common.{◌≡◌, length, map}
use Rattle.std.specs.List.{AllByRecursion}
use Rattle.dm_mail.specs.Ends.{AreNewOutlets}
use Rattle.dm_mirror.specs.Jobs.{IsJobOf}
use Rattle.dm_mirror.specs.Lists.{EachWith}
use Rattle.dm_mirror.proofs.ListLemmas.{LeadsFrom}
use Rattle.dm_mirror.proofs.running.jobs_of.Given as goal

abbrev pub invariant-loop-poster : goal.invariant-loop-poster
invariant-loop-poster l = record {
  jobs : LeadsFrom (IsJobOf l.fn.opened.mirrors.items) l.fn.posters.items l.posters.items l.jobs.items;
  rows : EachWith (λ job row. (length row ≡ length l.posters.items) × AreNewOutlets job.inlet (length l.jobs.items) row) l.fn.opened.mirrors.items (map (λ row. row.items) l.rows.items);
  copied : AllByRecursion (λ poster. length poster.copies.items ≡ length l.fn.opened.mirrors.items) l.posters.items;
}

abbrev pub decreases-loop-poster : goal.decreases-loop-poster
decreases-loop-poster l = length l.posters.items

use Rattle.std.proofs.Common.{◌≡◌, ◌≤◌, ◌+◌, length, map, take}
use Rattle.std.specs.List.{AllByRecursion}
use Rattle.std.specs.VecDeque.{deque_capacity}
use Rattle.dm_mail.specs.Ends.{AreNewOutlets}
use Rattle.dm_mirror.specs.Jobs.{IsOpened}
use Rattle.dm_mirror.specs.Lists.{EachWith}
use Rattle.dm_mirror.specs.Mirrors.{IsReady}
use Rattle.dm_mirror.proofs.ListLemmas.{Leads}
use Rattle.dm_mirror.proofs.running.open_each.Given as goal

abbrev pub invariant-loop-mirror : goal.invariant-loop-mirror
invariant-loop-mirror g l = record {
  jobs : Leads (IsOpened l.fn.posters l.fn.expected l.fn.bound) l.fn.mirrors.items l.mirrors.items l.jobs.items;
  rows : EachWith (λ job row. (length row ≡ l.fn.posters) × AreNewOutlets job.inlet 0 row) l.jobs.items (map (λ row. row.items) l.outlets.items);
  policies : map (λ job. job.policy) l.jobs.items ≡ take (length l.jobs.items) l.fn.policies;
  as_many : length l.jobs.items + length l.mirrors.items ≡ length l.fn.policies;
  ready : AllByRecursion (IsReady l.fn.posters l.fn.expected) l.mirrors.items;
  fits : length l.jobs.items + length l.mirrors.items ≤ deque_capacity l.jobs;
  fits_outlets : length l.outlets.items + length l.mirrors.items ≤ deque_capacity l.outlets;
}

abbrev pub decreases-loop-mirror : goal.decreases-loop-mirror
decreases-loop-mirror g l = length l.mirrors.items

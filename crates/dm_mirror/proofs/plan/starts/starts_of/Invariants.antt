use Rattle.std.proofs.Common.{◌≡◌, ◌≤◌, length, map, take}
use Rattle.std.specs.VecDeque.{deque_capacity}
use Rattle.dm_mirror.specs.Plans.{AreStarts}
use Rattle.dm_mirror.proofs.plan.starts.starts_of.Given as goal

abbrev pub invariant-loop-number : goal.invariant-loop-number
invariant-loop-number l = record {
  starts : AreStarts l.fn.limits (map (λ base. base.now) (take l.number l.fn.bases)) (map (λ repo. repo.patches) l.repos.items);
  count : length l.repos.items ≡ l.number;
  fits : length l.fn.bases ≤ deque_capacity l.repos;
}

use Rattle.std.proofs.Common.{◌≡◌, ◌≤◌, ◌+◌, ◌++◌, length, map}
use Rattle.std.specs.VecDeque.{deque_capacity}
use Rattle.dm_mirror.proofs.threads.start_mirrors.Given as goal

abbrev pub invariant-loop-job : goal.invariant-loop-job
invariant-loop-job g l = record {
  jobs : map (λ thread. thread.promise.0.value) l.threads.items ++ l.jobs.items ≡ l.fn.jobs.items;
  count : length l.threads.items + length l.jobs.items ≡ length l.fn.jobs.items;
  fits : length l.threads.items + length l.jobs.items ≤ deque_capacity l.threads;
}

abbrev pub decreases-loop-job : goal.decreases-loop-job
decreases-loop-job g l = length l.jobs.items

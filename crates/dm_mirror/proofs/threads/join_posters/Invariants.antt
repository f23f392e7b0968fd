use Rattle.std.proofs.Common.{◌≤◌, ◌+◌, length}
use Rattle.std.specs.VecDeque.{deque_capacity}
use Rattle.dm_mirror.specs.Jobs.{DoesPost}
use Rattle.dm_mirror.proofs.ListLemmas.{Leads}
use Rattle.dm_mirror.proofs.threads.join_posters.Given as goal

abbrev pub invariant-loop-thread : goal.invariant-loop-thread
invariant-loop-thread g l = record {
  done : Leads (λ thread row. DoesPost thread.promise.0.value row.items) l.fn.threads.items l.threads.items l.rows.items;
  fits : length l.rows.items + length l.threads.items ≤ deque_capacity l.rows;
}

abbrev pub decreases-loop-thread : goal.decreases-loop-thread
decreases-loop-thread g l = length l.threads.items

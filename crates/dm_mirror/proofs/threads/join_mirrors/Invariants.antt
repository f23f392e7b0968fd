use Rattle.std.proofs.Common.{◌≤◌, ◌+◌, length}
use Rattle.std.specs.VecDeque.{deque_capacity}
use Rattle.dm_mirror.specs.Jobs.{DoesTake}
use Rattle.dm_mirror.proofs.ListLemmas.{Leads}
use Rattle.dm_mirror.proofs.threads.join_mirrors.Given as goal

abbrev pub invariant-loop-thread : goal.invariant-loop-thread
invariant-loop-thread g l = record {
  done : Leads (λ thread one. DoesTake thread.promise.0.value one) l.fn.threads.items l.threads.items l.kept.items;
  fits : length l.kept.items + length l.threads.items ≤ deque_capacity l.kept;
}

abbrev pub decreases-loop-thread : goal.decreases-loop-thread
decreases-loop-thread g l = length l.threads.items

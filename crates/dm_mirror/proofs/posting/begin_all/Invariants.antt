use Rattle.std.proofs.Common.{◌≡◌, ◌≤◌, ◌+◌, length}
use Rattle.std.specs.VecDeque.{deque_capacity}
use Rattle.dm_mirror.specs.Jobs.{IsBegun}
use Rattle.dm_mirror.proofs.ListLemmas.{Leads}
use Rattle.dm_mirror.proofs.posting.begin_all.Given as goal

abbrev pub invariant-loop-line : goal.invariant-loop-line
invariant-loop-line l = record {
  begun : Leads IsBegun l.fn.lines.items l.lines.items l.begun.items;
  fits : length l.begun.items + length l.lines.items ≤ deque_capacity l.begun;
  capacity : deque_capacity l.begun ≡ deque_capacity l.fn.room;
}

abbrev pub decreases-loop-line : goal.decreases-loop-line
decreases-loop-line l = length l.lines.items

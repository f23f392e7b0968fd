use Rattle.std.proofs.Common.{◌≡◌, ◌≤◌, ◌+◌, length}
use Rattle.std.specs.VecDeque.{deque_capacity}
use Rattle.dm_mirror.specs.Jobs.{SameLine}
use Rattle.dm_mirror.proofs.ListLemmas.{Leads}
use Rattle.dm_mirror.proofs.posting.send_round.Given as goal

abbrev pub invariant-loop-line : goal.invariant-loop-line
invariant-loop-line g l = record {
  lines : Leads SameLine l.fn.lines.items l.lines.items l.moved.items;
  fits : length l.moved.items + length l.lines.items ≤ deque_capacity l.moved;
  capacity : deque_capacity l.lines ≡ deque_capacity l.fn.lines;
  capacity_of_moved : deque_capacity l.moved ≡ deque_capacity l.fn.room;
}

abbrev pub decreases-loop-line : goal.decreases-loop-line
decreases-loop-line g l = length l.lines.items

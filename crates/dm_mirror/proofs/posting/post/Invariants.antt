use Rattle.std.proofs.Common.{◌≡◌, ◌≤◌, [], length}
use Rattle.std.specs.VecDeque.{deque_capacity}
use Rattle.dm_mirror.specs.Jobs.{SameLine}
use Rattle.dm_mirror.specs.Lists.{EachWith}
use Rattle.dm_mirror.proofs.posting.post.Given as goal

abbrev pub invariant-loop : goal.invariant-loop
invariant-loop g l = record {
  lines : EachWith SameLine l.initial.lines.items l.lines.items;
  empty : l.room.items ≡ [];
  fits : length l.lines.items ≤ deque_capacity l.lines;
  fits_room : length l.lines.items ≤ deque_capacity l.room;
}

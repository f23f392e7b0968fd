use Rattle.std.proofs.Common.{◌≡◌, ◌<◌, ◌≤◌, length, map, ◌+◌}
use Rattle.std.specs.List.{AllByRecursion}
use Rattle.std.specs.VecDeque.{deque_capacity}
use Rattle.dm_mirror.proofs.ListLemmas.{HeadsLead}
use Rattle.dm_mirror.proofs.columns.take_column.Given as goal

abbrev pub invariant-loop-row : goal.invariant-loop-row
invariant-loop-row g l = record {
  heads : HeadsLead (map (λ row. row.items) l.fn.rows.items) (map (λ row. row.items) l.rows.items) l.heads.items (map (λ row. row.items) l.rests.items);
  filled : AllByRecursion (λ row. 0 < length row.items) l.rows.items;
  fits : length l.rests.items + length l.rows.items ≤ deque_capacity l.rests;
  fits_heads : length l.heads.items + length l.rows.items ≤ deque_capacity l.heads;
  capacity : deque_capacity l.rows ≡ deque_capacity l.fn.rows;
  capacity_of_rests : deque_capacity l.rests ≡ deque_capacity l.fn.room;
  capacity_of_heads : deque_capacity l.heads ≡ deque_capacity l.fn.room_for_heads;
}

abbrev pub decreases-loop-row : goal.decreases-loop-row
decreases-loop-row g l = length l.rows.items

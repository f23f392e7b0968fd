use Rattle.std.proofs.Common.{◌≤◌, ◌+◌, length}
use Rattle.std.specs.VecDeque.{deque_capacity}
use Rattle.dm_mirror.specs.Jobs.{EndsLine}
use Rattle.dm_mirror.proofs.ListLemmas.{Leads}
use Rattle.dm_mirror.proofs.posting.finish_all.Given as goal

abbrev pub invariant-loop-line : goal.invariant-loop-line
invariant-loop-line g l = record {
  ends : Leads EndsLine l.fn.lines.items l.lines.items l.ends.items;
  fits : length l.ends.items + length l.lines.items ≤ deque_capacity l.ends;
}

abbrev pub decreases-loop-line : goal.decreases-loop-line
decreases-loop-line g l = length l.lines.items

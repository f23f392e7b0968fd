use Rattle.std.proofs.Common.{length, ◌-◌, ◌≤◌, drop}
use Rattle.dm_named.specs.Words.{MarkedLine}
use Rattle.dm_named.specs.Many.{Many}
use Rattle.dm_named.proofs.reading.lines.lines_at.Given as goal

abbrev pub invariant-loop-line : goal.invariant-loop-line
invariant-loop-line g l = (l.start ≤ l.at) × (l.at ≤ length l.text) × Many (MarkedLine l.byte) (drop l.start l.text) l.lines (drop l.at l.text)

abbrev pub decreases-loop-line : goal.decreases-loop-line
decreases-loop-line g l = length l.text - l.at

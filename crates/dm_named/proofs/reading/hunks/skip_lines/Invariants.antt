use Rattle.std.proofs.Common.{length, ◌-◌, ◌≤◌, drop, List, ℕ}
use Rattle.dm_named.specs.Words.{MarkedLine}
use Rattle.dm_named.specs.Many.{Many}
use Rattle.dm_named.proofs.reading.hunks.skip_lines.Given as goal

abbrev pub invariant-loop-at : goal.invariant-loop-at
invariant-loop-at l = (l.start ≤ l.at) × (l.at ≤ length l.text) × ((lines : List (List ℕ)) × Many (MarkedLine 32) (drop l.start l.text) lines (drop l.at l.text))

abbrev pub decreases-loop-at : goal.decreases-loop-at
decreases-loop-at l = length l.text - l.at

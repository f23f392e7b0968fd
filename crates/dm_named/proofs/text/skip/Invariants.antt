use Rattle.std.proofs.Common.{length, ◌-◌, ◌≡◌, ◌≤◌, drop}
use Rattle.dm_named.specs.Words.{skipped}
use Rattle.dm_named.proofs.text.skip.Given as goal

abbrev pub invariant-loop-at : goal.invariant-loop-at
invariant-loop-at l = (l.initial.at ≤ l.at) × (l.at ≤ length l.text) × (skipped (drop l.at l.text) ≡ skipped (drop l.initial.at l.text))

abbrev pub decreases-loop-at : goal.decreases-loop-at
decreases-loop-at l = length l.text - l.at

use Rattle.std.proofs.Common.{ℕ, List, length, ◌-◌, ◌≤◌, drop}
use Rattle.dm_bundle.specs.Heading.{Heading}
use Rattle.dm_bundle.proofs.heading.heading_at.Given as goal

abbrev pub invariant-loop-at : goal.invariant-loop-at
invariant-loop-at l = (l.at ≤ length l.text) × ((r : List ℕ) → Heading (drop l.at l.text) r → Heading l.text r) × ((r : List ℕ) → Heading l.text r → Heading (drop l.at l.text) r)

abbrev pub decreases-loop-at : goal.decreases-loop-at
decreases-loop-at l = length l.text - l.at

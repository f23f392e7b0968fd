use Rattle.std.proofs.Common.{ℕ, length, ◌-◌, ◌≡◌, ◌≤◌, ◌<◌, get_or, false}
use Rattle.dm_named.specs.Words.{is_white}
use Rattle.dm_named.proofs.text.word_at.Given as goal

abbrev pub invariant-loop-end : goal.invariant-loop-end
invariant-loop-end l = (l.at ≤ l.end) × (l.end ≤ length l.text) × ((j : ℕ) → l.at ≤ j → j < l.end → is_white (get_or l.text j 0) ≡ false)

abbrev pub decreases-loop-end : goal.decreases-loop-end
decreases-loop-end l = length l.text - l.end

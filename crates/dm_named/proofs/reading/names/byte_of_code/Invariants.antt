use Rattle.std.proofs.Common.{◌≡◌, ◌≤◌, ◌<◌, ℕ, get_or, drop}
use Rattle.dm_named.specs.Words.{IsDigit, number_from}
use Rattle.dm_named.proofs.reading.names.byte_of_code.Given as goal

abbrev pub invariant-loop-digit : goal.invariant-loop-digit
invariant-loop-digit l = (number_from l.number (drop l.digit-index l.digits) ≡ number_from 0 l.digits) × ((k : ℕ) → k < l.digit-index → IsDigit (get_or l.digits k 0))
    × (l.digit-index ≡ 0 → l.number ≡ 0) × (l.digit-index ≡ 1 → l.number ≤ 9) × (l.digit-index ≡ 2 → l.number ≤ 99) × (l.number ≤ 999)

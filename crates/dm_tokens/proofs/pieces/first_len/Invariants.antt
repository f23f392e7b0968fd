use Rattle.std.proofs.Common.{◌≡◌, ◌<◌, ℕ, get_or}
use Rattle.dm_tokens.specs.Sets.{in_table}
use Rattle.dm_tokens.proofs.pieces.first_len.Given as goal

abbrev pub invariant-loop-i : goal.invariant-loop-i
invariant-loop-i l = (k : ℕ) → k < l.i → in_table l.set (get_or l.text k 0) ≡ in_table l.set (get_or l.text 0 0)

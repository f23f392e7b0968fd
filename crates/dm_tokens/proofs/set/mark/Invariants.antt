use Rattle.std.proofs.Common.{◌≡◌, ℕ, false, cond, ◌&&◌, nat_le, nat_lt, get_or}
use Rattle.dm_tokens.proofs.set.mark.Given as goal

abbrev pub invariant-loop-byte : goal.invariant-loop-byte
invariant-loop-byte l = (b : ℕ) → get_or l.table b false ≡ cond (nat_le l.first b && nat_le b l.last && nat_lt b l.byte) l.mark (get_or l.fn.table b false)

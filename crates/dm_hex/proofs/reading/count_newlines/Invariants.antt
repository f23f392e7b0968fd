use Rattle.std.proofs.Common.{◌≤◌}
use Rattle.dm_hex.proofs.reading.count_newlines.Given as goal

abbrev pub invariant-loop-byte : goal.invariant-loop-byte
invariant-loop-byte l = l.count ≤ l.byte-index

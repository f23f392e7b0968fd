use Rattle.std.proofs.Common.{◌≡◌, ◌++◌, take}
use Rattle.dm_hex.specs.Digits.{hex_digits}
use Rattle.dm_hex.proofs.writing.push_digits.Given as goal

abbrev pub invariant-loop-byte : goal.invariant-loop-byte
invariant-loop-byte g l = l.out.items ≡ l.fn.out.items ++ hex_digits (take l.byte-index l.bytes)

use Rattle.std.proofs.Common.{◌≡◌, take, true}
use Rattle.std.specs.List.{AllByRecursion}
use Rattle.dm_named.specs.Words.{is_white}
use Rattle.dm_named.proofs.reading.numbers.is_blank.Given as goal

abbrev pub invariant-loop-byte : goal.invariant-loop-byte
invariant-loop-byte l = AllByRecursion (λ b. is_white b ≡ true) (take l.byte-index l.line)

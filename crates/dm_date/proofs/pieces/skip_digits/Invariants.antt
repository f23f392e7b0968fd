use Rattle.std.proofs.Common.{◌≡◌, drop}
use Rattle.dm_date.specs.Pieces.{skip_digits}
use Rattle.dm_date.proofs.pieces.skip_digits.Given as goal

abbrev pub invariant-loop-i : goal.invariant-loop-i
invariant-loop-i l = skip_digits (drop l.i l.text) ≡ skip_digits l.text

use Rattle.std.proofs.Common.{◌≡◌, drop}
use Rattle.dm_date.specs.Pieces.{skip_spaces}
use Rattle.dm_date.proofs.pieces.skip_spaces.Given as goal

abbrev pub invariant-loop-i : goal.invariant-loop-i
invariant-loop-i l = skip_spaces (drop l.i l.text) ≡ skip_spaces l.text

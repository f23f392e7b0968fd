use Rattle.std.proofs.Common.{◌≡◌, ℕ, List, ◌++◌, length}
use Rattle.std.specs.Fmt.{HasWritten, IsPlainFormatter}
use Rattle.dm_quoted.specs.Quoting.{shown_from}
use Rattle.dm_quoted.proofs.write_pieces.Given as goal

abbrev pub invariant-pieces : goal.invariant-pieces
invariant-pieces g l = IsPlainFormatter l.fn.f
    → (done : List ℕ) × HasWritten g.W.Write.write_str_gives l.fn.f done l.f
    × (done ++ shown_from l.fn.manner (length l.rest) l.rest ≡ shown_from l.fn.manner (length l.fn.text) l.fn.text)

abbrev pub decreases-pieces : goal.decreases-pieces
decreases-pieces g l = length l.rest

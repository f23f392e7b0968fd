use Rattle.std.proofs.Common.{◌≡◌, length}
use Rattle.dm_tokens.specs.Sets.{in_table}
use Rattle.dm_tokens.specs.Walks.{has}
use Rattle.dm_tokens.proofs.pieces.has_piece.Given as goal

abbrev pub invariant-loop-piece : goal.invariant-loop-piece
invariant-loop-piece l = has (in_table l.set) l.text l.piece ≡ has (in_table l.set) l.rest l.piece

abbrev pub decreases-loop-piece : goal.decreases-loop-piece
decreases-loop-piece l = length l.rest

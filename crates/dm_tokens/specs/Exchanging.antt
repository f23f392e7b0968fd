-- Exchanging two tokens with each other, in a text.
use Rattle.std.specs.Prelude.{ℕ, cond, List, map}
use Rattle.std.specs.List.{concat}
use Rattle.std.specs.Str.{bytes_eq}
use Rattle.dm_tokens.specs.Sets.{ByteSet}
use Rattle.dm_tokens.specs.Walks.{pieces_of}

-- a piece that is one of the two tokens becomes the other one; any other piece stays
abbrev pub exchanged_piece : List ℕ → List ℕ → List ℕ → List ℕ
exchanged_piece old new p = cond (bytes_eq old p) new (cond (bytes_eq new p) old p)

-- a text, exchanged piece by piece
unfoldable pub exchanged : ByteSet → List ℕ → List ℕ → List ℕ → List ℕ
exchanged set old new text = concat (map (exchanged_piece old new) (pieces_of set text))

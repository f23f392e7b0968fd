-- Pieces and turned texts as they are computed. For the clauses of private functions, and for what exchanges tokens.
use Rattle.std.specs.Prelude.{ℕ, Bool, cond, List, [], ◌∷◌, map}
use Rattle.std.specs.List.{concat, list_any}
use Rattle.std.specs.Str.{bytes_eq}
use Rattle.std.proofs.Math.Bool.{beq}
use Rattle.dm_tokens.specs.Sets.{ByteSet}

-- a byte before pieces: in the first of them if both are of the set or neither is, otherwise a piece of its own
abbrev pub put : ByteSet → ℕ → List (List ℕ) → List (List ℕ)
put set b [] = (b ∷ []) ∷ []
put set b ([] ∷ ps) = (b ∷ []) ∷ ps
put set b ((c ∷ p) ∷ ps) = cond (beq (set b) (set c)) ((b ∷ c ∷ p) ∷ ps) ((b ∷ []) ∷ (c ∷ p) ∷ ps)

-- the pieces of a text
unfoldable pub pieces_of : ByteSet → List ℕ → List (List ℕ)
pieces_of set [] = []
pieces_of set (b ∷ text) = put set b (pieces_of set text)

-- whether a text has such a piece
unfoldable pub has : ByteSet → List ℕ → List ℕ → Bool
has set text piece = list_any (bytes_eq piece) (pieces_of set text)

-- a piece, turned
abbrev pub turned_piece : List ℕ → List ℕ → List ℕ → List ℕ
turned_piece old new p = cond (bytes_eq old p) new p

-- a text, turned piece by piece
unfoldable pub turned : ByteSet → List ℕ → List ℕ → List ℕ → List ℕ
turned set old new text = concat (map (turned_piece old new) (pieces_of set text))

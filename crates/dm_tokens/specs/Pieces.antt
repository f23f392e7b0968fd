-- Tokens of a set of bytes, and the pieces of a text.
use Rattle.std.specs.Prelude.{◌≡◌, ◌≢◌, ℕ, Bool, true, not, List, [], ◌∷◌, All, Contains}
use Rattle.std.specs.List.{concat}
use Rattle.dm_tokens.specs.Sets.{ByteSet}

-- all bytes are in the set, or none is
abbrev pub AreAll : ByteSet → Bool → List ℕ → Type 0
AreAll set inside bytes = All (λ b. set b ≡ inside) bytes

-- a token: bytes of the set, at least one
abbrev pub IsToken : ByteSet → List ℕ → Type 0
IsToken set token = (token ≢ []) × AreAll set true token

-- pieces, none of them empty: by turns bytes of the set and bytes outside of it
abbrev pub AreByTurns : ByteSet → Bool → List (List ℕ) → Type 0
AreByTurns set inside [] = Unit {0}
AreByTurns set inside (p ∷ ps) = (p ≢ []) × AreAll set inside p × AreByTurns set (not inside) ps

-- the pieces of a text: it is cut between each byte of the set and a neighbour outside of it
pub record ArePieces (set : ByteSet) (text : List ℕ) (ps : List (List ℕ)) : Type 0 where
  pub whole : concat ps ≡ text
  pub inside : Bool
  pub by_turns : AreByTurns set inside ps

-- a text has such a piece
pub record HasPiece (set : ByteSet) (text piece : List ℕ) : Type 0 where
  pub all : List (List ℕ)
  pub are : ArePieces set text all
  pub there : Contains all piece

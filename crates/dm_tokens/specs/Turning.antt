-- Turning a token into another one, in a text.
use Rattle.std.specs.Prelude.{◌≡◌, ◌≢◌, ℕ, false, List, ◌==◌, ◌⊎◌}
use Rattle.std.specs.List.{AllZip, concat, list_any}
use Rattle.dm_tokens.specs.Sets.{ByteSet}
use Rattle.dm_tokens.specs.Pieces.{ArePieces, HasPiece}
use Rattle.dm_tokens.specs.declared.turning.Turned.{Turned}
use Rattle.dm_tokens.specs.declared.turning.Turned.TheVariants.{Same, Other, Nothing}

-- a piece that is the old token becomes the new one; any other piece stays, and isn't the new one
abbrev pub TurnsPiece : List ℕ → List ℕ → List ℕ → List ℕ → Type 0
TurnsPiece old new p q = ((p ≡ old) × (q ≡ new)) ⊎ ((p ≢ old) × (p ≢ new) × (q ≡ p))

-- a text turns to another: piece by piece
pub record Turns (set : ByteSet) (old new x y : List ℕ) : Type 0 where
  pub from : List (List ℕ)
  pub to : List (List ℕ)
  pub pieces : ArePieces set x from
  pub each : AllZip (TurnsPiece old new) from to
  pub made : y ≡ concat to

-- lines turn to others: line by line
abbrev pub TurnAll : ByteSet → List ℕ → List ℕ → List (List ℕ) → List (List ℕ) → Type 0
TurnAll set old new ls ls' = AllZip (Turns set old new) ls ls'

-- what a text turns to: itself; another text, since the old token is there and the new one is not; nothing, since the new one is there already
abbrev pub TurnsAs : ByteSet → List ℕ → List ℕ → List ℕ → Turned → Type 0
TurnsAs set old new x Same = Turns set old new x x
TurnsAs set old new x Other = (old ≢ new) × HasPiece set x old × (HasPiece set x new → ⊥)
TurnsAs set old new x Nothing = (old ≢ new) × HasPiece set x new

-- a line has no newline
abbrev pub IsLine : List ℕ → Type 0
IsLine l = list_any (λ y. y == 10) l ≡ false

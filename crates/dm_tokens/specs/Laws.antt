-- Laws of pieces, of turning and of exchanging. The set is any set of bytes.
use Rattle.std.specs.Prelude.{◌≡◌, ◌≢◌, ◌↔◌, ℕ, false, List, length, All}
use Rattle.std.specs.List.{AllZip}
use Rattle.dm_tokens.specs.Sets.{ByteSet}
use Rattle.dm_tokens.specs.Pieces.{ArePieces, HasPiece, IsToken}
use Rattle.dm_tokens.specs.Turning.{IsLine, Turns, TurnAll, TurnsPiece}
use Rattle.dm_tokens.specs.Exchanging.{exchanged}

-- each text has pieces
abbrev pub TextHasPieces : Type 0
TextHasPieces = (set : ByteSet) (text : List ℕ) → (ps : List (List ℕ)) × ArePieces set text ps

-- and only these
abbrev pub TextHasOnePieces : Type 0
TextHasOnePieces = (set : ByteSet) (text : List ℕ) (ps qs : List (List ℕ)) → ArePieces set text ps → ArePieces set text qs → ps ≡ qs

-- a text turns to at most one other
abbrev pub TurningHasOneAnswer : Type 0
TurningHasOneAnswer = (set : ByteSet) (old new x y z : List ℕ) → Turns set old new x y → Turns set old new x z → y ≡ z

-- it turns to one, unless the new token stands in it and is not the old one
abbrev pub TextTurnsUnlessNewIsThere : Type 0
TextTurnsUnlessNewIsThere = (set : ByteSet) (old new x : List ℕ) → (old ≢ new → HasPiece set x new → ⊥) → (y : List ℕ) × Turns set old new x y

-- in this case it turns to none
abbrev pub TextWithNewTurnsToNothing : Type 0
TextWithNewTurnsToNothing = (set : ByteSet) (old new x y : List ℕ) → old ≢ new → HasPiece set x new → Turns set old new x y → ⊥

-- a text turns to another just where that turns back
abbrev pub TurningTurnsBack : Type 0
TurningTurnsBack = (set : ByteSet) (old new x y : List ℕ) → IsToken set old → IsToken set new → Turns set old new x y ↔ Turns set new old y x

-- the pieces of what a text turns to are its pieces, turned one by one
abbrev pub TurningKeepsPieces : Type 0
TurningKeepsPieces = (set : ByteSet) (old new x y : List ℕ) (ps qs : List (List ℕ)) → IsToken set old → IsToken set new → Turns set old new x y →
    ArePieces set x ps → ArePieces set y qs → AllZip (TurnsPiece old new) ps qs

-- a token that becomes itself changes nothing
abbrev pub SameTokenChangesNothing : Type 0
SameTokenChangesNothing = (set : ByteSet) (token x y : List ℕ) → Turns set token token x y ↔ (y ≡ x)

-- a line turns to a line, where the newline is not in the set
abbrev pub TurnedLinesAreLines : Type 0
TurnedLinesAreLines = (set : ByteSet) (old new : List ℕ) (ls ls' : List (List ℕ)) → set 10 ≡ false → IsToken set new → All IsLine ls → TurnAll set old new ls ls' → All IsLine ls'

-- lines turn to as many lines
abbrev pub LinesTurnToAsMany : Type 0
LinesTurnToAsMany = (set : ByteSet) (old new : List ℕ) (ls ls' : List (List ℕ)) → TurnAll set old new ls ls' → length ls' ≡ length ls

-- lines turn to at most one list of lines
abbrev pub TurningLinesHasOneAnswer : Type 0
TurningLinesHasOneAnswer = (set : ByteSet) (old new : List ℕ) (ls one other : List (List ℕ)) → TurnAll set old new ls one → TurnAll set old new ls other → one ≡ other

-- lines turn to others just where these turn back
abbrev pub TurningLinesTurnsBack : Type 0
TurningLinesTurnsBack = (set : ByteSet) (old new : List ℕ) (ls ls' : List (List ℕ)) → IsToken set old → IsToken set new → TurnAll set old new ls ls' ↔ TurnAll set new old ls' ls

-- if one token becomes another and then a third becomes a fourth, none of the last two being one of the first two, the other order ends alike
abbrev pub TurningsPassEachOther : Type 0
TurningsPassEachOther = (set : ByteSet) (o1 n1 o2 n2 x y z : List ℕ) → IsToken set o1 → IsToken set n1 → IsToken set o2 → IsToken set n2 →
    o1 ≢ o2 → o1 ≢ n2 → n1 ≢ o2 → n1 ≢ n2 → Turns set o1 n1 x y → Turns set o2 n2 y z → (w : List ℕ) × Turns set o2 n2 x w × Turns set o1 n1 w z

-- exchanging two tokens is its own inverse
abbrev pub ExchangingTurnsBack : Type 0
ExchangingTurnsBack = (set : ByteSet) (old new x : List ℕ) → IsToken set old → IsToken set new → exchanged set old new (exchanged set old new x) ≡ x

-- it is the same whichever of the two comes first
abbrev pub ExchangingHasNoOrder : Type 0
ExchangingHasNoOrder = (set : ByteSet) (old new x : List ℕ) → exchanged set new old x ≡ exchanged set old new x

-- what a text turns to is the text with the two tokens exchanged
abbrev pub TurningExchanges : Type 0
TurningExchanges = (set : ByteSet) (old new x y : List ℕ) → Turns set old new x y → y ≡ exchanged set old new x

-- exchanging two tokens and exchanging two others come to the same in both orders
abbrev pub ExchangesPassEachOther : Type 0
ExchangesPassEachOther = (set : ByteSet) (o1 n1 o2 n2 x : List ℕ) → IsToken set o1 → IsToken set n1 → IsToken set o2 → IsToken set n2 →
    o1 ≢ o2 → o1 ≢ n2 → n1 ≢ o2 → n1 ≢ n2 → exchanged set o2 n2 (exchanged set o1 n1 x) ≡ exchanged set o1 n1 (exchanged set o2 n2 x)

-- A piece at the front of a text: what follows it, where the text begins with it.
use Rattle.std.specs.Prelude.{ℕ, ◌+◌, ◌-◌, ◌*◌, ◌==◌, Bool, false, List, [], ◌∷◌, slice_index, Option, None, Some, unwrap_or, is_some, if◌then◌else◌}
use Rattle.std.specs.Char.{is_ascii_digit}

infixl 10 ◌>>=◌
abbrev pub ◌>>=◌ : Option (List ℕ) → (List ℕ → Option (List ℕ)) → Option (List ℕ)
None >>= next = None
(Some rest) >>= next = next rest

-- There is a rest, and it passes.
abbrev pub passes : (List ℕ → Bool) → Option (List ℕ) → Bool
passes test None = false
passes test (Some rest) = test rest

-- this byte
unfoldable pub byte : ℕ → List ℕ → Option (List ℕ)
byte b [] = None
byte b (c ∷ rest) = if c == b then Some rest else None

-- a digit
unfoldable pub digit : List ℕ → Option (List ℕ)
digit [] = None
digit (c ∷ rest) = if is_ascii_digit c then Some rest else None

unfoldable pub two_digits : List ℕ → Option (List ℕ)
two_digits text = do
  rest ← digit text
  digit rest

unfoldable pub three_digits : List ℕ → Option (List ℕ)
three_digits text = do
  rest ← digit text
  two_digits rest

unfoldable pub four_digits : List ℕ → Option (List ℕ)
four_digits text = do
  rest ← two_digits text
  two_digits rest

-- one digit or two
unfoldable pub short_day : List ℕ → Option (List ℕ)
short_day text = if is_some (two_digits text) then two_digits text else digit text

-- the text without the spaces at its front
unfoldable pub skip_spaces : List ℕ → List ℕ
skip_spaces [] = []
skip_spaces (c ∷ rest) = if c == 32 then skip_spaces rest else c ∷ rest

-- one space or more
unfoldable pub spaces : List ℕ → Option (List ℕ)
spaces text = do
  rest ← byte 32 text
  Some (skip_spaces rest)

-- the text without this byte at its front, if it has it there
unfoldable pub skip_byte : ℕ → List ℕ → List ℕ
skip_byte b text = unwrap_or (byte b text) text

-- an hour, a minute and a second with colons between
unfoldable pub clock : List ℕ → Option (List ℕ)
clock text = do
  colon ← two_digits text
  minute ← byte 58 colon
  second_colon ← two_digits minute
  second ← byte 58 second_colon
  two_digits second

-- the number that the digits at this place and behind it write
abbrev pub number_at : List ℕ → ℕ → ℕ
number_at text i = (slice_index text i - 48) * 10 + (slice_index text (i + 1) - 48)

-- the number that two digits at the front write
abbrev pub number : List ℕ → ℕ
number text = number_at text 0

-- the text without the digits at its front
unfoldable pub skip_digits : List ℕ → List ℕ
skip_digits [] = []
skip_digits (c ∷ rest) = if is_ascii_digit c then skip_digits rest else c ∷ rest

-- the number that one digit at the front writes
unfoldable pub small_number : List ℕ → ℕ
small_number [] = 0
small_number (c ∷ rest) = if is_ascii_digit c then c - 48 else 0

-- the number that one digit or two at the front write
unfoldable pub short_number : List ℕ → ℕ
short_number text = if is_some (two_digits text) then number text else small_number text

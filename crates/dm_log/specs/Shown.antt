-- How what a stranger wrote is shown.
use Rattle.std.specs.Prelude.{ℕ, ◌/◌, ◌%◌, ◌==◌, Bool, not, ◌&&◌, ◌||◌, List, [], ◌∷◌, codes, slice_index, if◌then◌else◌}
use Rattle.std.specs.List.{flat_map}
use Rattle.std.specs.Int.{is_in_range}
use Rattle.std.specs.Char.{encode_utf8}
use Rattle.std.specs.Str.{chars, is_utf8}
use Rattle.dm_quoted.specs.Quoting.{acts}

-- a byte as two digits
abbrev pub digits : ℕ → List ℕ
digits b = slice_index (codes "0123456789abcdef") (b / 16 % 16) ∷ slice_index (codes "0123456789abcdef") (b % 16) ∷ []

-- a backslash, an `x`, and the byte as two digits
abbrev pub escape : ℕ → List ℕ
escape b = 92 ∷ 120 ∷ digits b

-- a terminal might act on the character, or show nothing for it, and it isn't the tab
abbrev pub is_escaped : ℕ → Bool
is_escaped c = acts c && not (c == 9)

-- a character: itself in UTF-8, or each of these bytes escaped
abbrev pub shown_char : ℕ → List ℕ
shown_char c = if is_escaped c then flat_map escape (encode_utf8 c) else encode_utf8 c

-- a byte of a text that isn't UTF-8: itself, or escaped if it is past ASCII or a terminal might act on it
abbrev pub shown_byte : ℕ → List ℕ
shown_byte b = if b == 9 || is_in_range 32 126 b then b ∷ [] else escape b

-- a text: its characters if it is UTF-8, or else its bytes
abbrev pub shown : List ℕ → List ℕ
shown text = if is_utf8 text then flat_map shown_char (chars text) else flat_map shown_byte text

-- How what a stranger wrote is shown.
use Rattle.std.specs.Prelude.{ℕ, zero, suc, ◌+◌, ◌/◌, ◌%◌, ◌==◌, nat_lt, Bool, ◌||◌, List, [], ◌∷◌, ◌++◌, length, take, drop, Option, Some, None, if◌then◌else◌}
use Rattle.std.specs.List.{flat_map}
use Rattle.std.specs.Int.{is_in_range}
use Rattle.std.specs.Char.{is_control, encode_utf8}
use Rattle.bstr.specs.Utf8.{decoded}
use Rattle.dm_quoted.specs.declared.manner.Manner.{Manner}
use Rattle.dm_quoted.specs.declared.manner.Manner.TheVariants.{InQuotes, InLines}

-- a digit, from `0` to `f`
abbrev pub digit : ℕ → ℕ
digit n = if nat_lt n 10 then 48 + n else 87 + n

-- a backslash, an `x`, and the byte as two digits
abbrev pub escape : ℕ → List ℕ
escape b = 92 ∷ 120 ∷ digit (b / 16) ∷ digit (b % 16) ∷ []

-- a format character of the scripts that most use: it shows nothing, or turns or joins what stands beside it; or one that ends a line
abbrev pub is_format : ℕ → Bool
is_format c = c == 0xAD || (is_in_range 0x600 0x605 c || (c == 0x61C || (c == 0x6DD || (c == 0x70F || (is_in_range 0x890 0x891 c || (c == 0x8E2 || (c == 0x180E ||
    (is_in_range 0x200B 0x200F c || (is_in_range 0x2028 0x202E c || (is_in_range 0x2060 0x206F c || (c == 0xFEFF || is_in_range 0xFFF9 0xFFFB c)))))))))))

-- a format character past the first plane, or one of private use, which means what a font says
abbrev pub is_private : ℕ → Bool
is_private c = is_in_range 0xE000 0xF8FF c || (c == 0x110BD || (c == 0x110CD || (is_in_range 0x13430 0x1343F c || (is_in_range 0x1BCA0 0x1BCA3 c ||
    (is_in_range 0x1D173 0x1D17A c || is_in_range 0xE0000 0x10FFFF c)))))

-- a terminal might act on the character, or show nothing for it
abbrev pub acts : ℕ → Bool
acts c = is_control c || (is_format c || is_private c)

-- a character: each byte escaped if a terminal might act on it, or else itself
abbrev pub safe_char : ℕ → List ℕ
safe_char c = if acts c then flat_map escape (encode_utf8 c) else encode_utf8 c

-- in quotes a quote or a backslash has a backslash before it
abbrev pub quoted_char : ℕ → List ℕ
quoted_char c = if c == 34 || c == 92 then 92 ∷ encode_utf8 c else safe_char c

-- in lines a newline and a tab stay
abbrev pub line_char : ℕ → List ℕ
line_char c = if c == 10 || c == 9 then encode_utf8 c else safe_char c

-- a piece of a text: a character, or bytes that are none, each escaped
abbrev pub shown_piece : Manner → Option ℕ → List ℕ → List ℕ
shown_piece manner None bytes = flat_map escape bytes
shown_piece InQuotes (Some c) bytes = quoted_char c
shown_piece InLines (Some c) bytes = line_char c

-- the pieces of a text in order: fuel is at least the number of bytes
unfoldable pub shown_from : Manner → ℕ → List ℕ → List ℕ
shown_from manner zero text = []
shown_from manner (suc n) [] = []
shown_from manner (suc n) (b ∷ text) = shown_piece manner (decoded (b ∷ text)).char (take (decoded (b ∷ text)).size (b ∷ text)) ++ shown_from manner n (drop (decoded (b ∷ text)).size (b ∷ text))

-- a text in quotes
abbrev pub quoted : List ℕ → List ℕ
quoted text = 34 ∷ (shown_from InQuotes (length text) text ++ 34 ∷ [])

-- a text of lines
abbrev pub lines_shown : List ℕ → List ℕ
lines_shown text = shown_from InLines (length text) text

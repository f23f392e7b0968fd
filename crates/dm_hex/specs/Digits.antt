-- The content of a file as hex digits, as a text has them: in any lines and in either case when it is read, in one way when it is written.
use Rattle.std.specs.Prelude.{◌≡◌, ℕ, ◌+◌, ◌*◌, ◌/◌, List, [], ◌∷◌, ◌++◌, length, map, take, drop, Some}
use Rattle.std.specs.List.{concat, flat_map, range_with_len}
use Rattle.hex.specs.Hex.{hex_digit_value, encode_lower}
use Rattle.dm_tree.specs.Trees.{Lines}
use Rattle.dm_hex.specs.Contents.{content, AreFileLines}

-- two digits, `0` to `9`, `a` to `f` or `A` to `F`, stand for a byte: the high one first
abbrev pub IsByteOf : ℕ → ℕ → ℕ → Type 0
IsByteOf high low byte = (h : ℕ) × (l : ℕ) × (hex_digit_value high ≡ Some h) × (hex_digit_value low ≡ Some l) × (byte ≡ h * 16 + l)

-- digits stand for bytes: two digits for each byte, and no digit is left
abbrev pub IsHexOf : List ℕ → List ℕ → Type 0
IsHexOf [] [] = Unit {0}
IsHexOf (high ∷ low ∷ digits) (byte ∷ bytes) = IsByteOf high low byte × IsHexOf digits bytes
IsHexOf digits bytes = ⊥

-- lines of digits, put together, stand for the content with these lines
abbrev pub IsHexOfLines : Lines → Lines → Type 0
IsHexOfLines digits lines = AreFileLines lines × IsHexOf (concat digits) (content lines)

-- bytes as digits, in lower case
abbrev pub hex_digits : List ℕ → List ℕ
hex_digits bytes = encode_lower bytes

-- how many bytes a full line has, in twice as many digits
abbrev pub line_bytes : ℕ
line_bytes = 39

-- the line at place k, from 0: the bytes of a full line, behind those of k full lines, or as many as are left
unfoldable pub star_line : List ℕ → ℕ → List ℕ
star_line bytes k = hex_digits (take line_bytes (drop (line_bytes * k) bytes))

-- the lines of digits that are written: full ones, and a last one that is not full, so that no bytes make one empty line
unfoldable pub star_lines : List ℕ → Lines
star_lines bytes = map (star_line bytes) (range_with_len 0 (length bytes / line_bytes + 1))

-- a line of digits as it is written: a star, the digits and a newline
abbrev pub star_text : List ℕ → List ℕ
star_text digits = 42 ∷ (digits ++ 10 ∷ [])

-- the content with these lines, as it is written
abbrev pub stars_text : Lines → List ℕ
stars_text lines = flat_map star_text (star_lines (content lines))

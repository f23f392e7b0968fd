-- What a file system may take for a name.
use Rattle.std.specs.Prelude.{ℕ, ◌==◌, Bool, ◌&&◌, ◌||◌, nat_lt, List, [], ◌∷◌, drop, length, if◌then◌else◌}
use Rattle.std.specs.Int.{is_in_range}
use Rattle.std.specs.List.{flat_map, list_all, list_any, slice_split, starts_with}
use Rattle.std.specs.Char.{to_ascii_lowercase}
use Rattle.std.specs.Str.{chars}
use Rattle.std.specs.Str.Lossy.{utf8_lossy}
use Rattle.dm_tree.specs.Paths.{Name}

-- a character of the first plane that shows nothing, and that some file systems pass over in a name (Unicode's `Default_Ignorable_Code_Point`)
abbrev pub is_passed_over_low : ℕ → Bool
is_passed_over_low c = c == 0xAD || (c == 0x34F || (c == 0x61C || (is_in_range 0x115F 0x1160 c || (is_in_range 0x17B4 0x17B5 c || (is_in_range 0x180B 0x180F c || (is_in_range 0x200B 0x200F c ||
    (is_in_range 0x202A 0x202E c || (is_in_range 0x2060 0x206F c || (c == 0x3164 || (is_in_range 0xFE00 0xFE0F c || (c == 0xFEFF || (c == 0xFFA0 || is_in_range 0xFFF0 0xFFF8 c))))))))))))

-- and one of any plane
abbrev pub is_passed_over : ℕ → Bool
is_passed_over c = is_passed_over_low c || (is_in_range 0x1BCA0 0x1BCA3 c || (is_in_range 0x1D173 0x1D17A c || is_in_range 0xE0000 0xE0FFF c))

-- a character as it is compared: an ASCII letter in lower case; `s` for the long s and `k` for the Kelvin sign, which fold to them; a zero, which no name has, for another character past ASCII
abbrev pub folded : ℕ → ℕ
folded c = if nat_lt c 128 then to_ascii_lowercase c else if c == 0x17F then 115 else if c == 0x212A then 107 else 0

-- what is compared of a character: nothing of one that is passed over
abbrev pub compared : ℕ → List ℕ
compared c = if is_passed_over c then [] else folded c ∷ []

-- what is compared of a name, in which what is no UTF-8 counts as some other character
abbrev pub seen : Name → List ℕ
seen name = flat_map compared (chars (utf8_lossy name))

-- a backslash or a colon, at which some file systems part a name: a stream of `.git` is called `.git:` and its name
abbrev pub is_parting : ℕ → Bool
is_parting b = b == 92 || b == 58

-- a dot or a space, which some file systems drop at the end of a name
abbrev pub is_dropped : ℕ → Bool
is_dropped b = b == 46 || b == 32

-- the word, with nothing behind it but dots and spaces
abbrev pub is_word : List ℕ → List ℕ → Bool
is_word word part = starts_with ◌==◌ part word && list_all is_dropped (drop (length word) part)

-- a part of what is compared is the word
abbrev pub is_taken_for : List ℕ → List ℕ → Bool
is_taken_for word compares = list_any (is_word word) (slice_split is_parting compares)

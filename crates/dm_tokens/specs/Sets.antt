-- Sets of bytes, and the texts that stand for them between brackets.
use Rattle.std.specs.Prelude.{ℕ, Bool, false, not, cond, ◌&&◌, ◌||◌, ◌==◌, nat_le, nat_lt, List, [], ◌∷◌, Option, Some, None, slice_index_or}
use Rattle.std.specs.Option.{option_map}
use Rattle.std.specs.List.{list_any}

-- a set of bytes, as a test
abbrev pub ByteSet : Type 0
ByteSet = ℕ → Bool

-- the set of the bytes at whose places a table says so
abbrev pub in_table : List Bool → ByteSet
in_table table = λ b. slice_index_or table b false

-- all bytes from the first to the last; none if the last is lower
pub record Range : Type 0 where
  pub first : ℕ
  pub last : ℕ

-- one byte
abbrev pub one : ℕ → Range
one b = record { first = b; last = b }

-- `\n`, `\t` and `\^` are escapes
abbrev pub is_escape : ℕ → ℕ → Bool
is_escape b c = b == 92 && (c == 110 || (c == 116 || c == 94))

-- the byte that a backslash and this byte stand for: 10, 9 and 94
abbrev pub escaped : ℕ → ℕ
escaped c = cond (c == 110) 10 (cond (c == 116) 9 c)

-- the first reading, from left to right: an escape is the byte that it stands for, and every other byte is itself
abbrev pub unescaped : List ℕ → List ℕ
unescaped [] = []
unescaped (b ∷ []) = b ∷ []
unescaped (b ∷ c ∷ text) = cond (is_escape b c) (escaped c ∷ unescaped text) (b ∷ unescaped (c ∷ text))

-- `.`, `-` and the backslash may stand behind a backslash
abbrev pub is_quotable : ℕ → Bool
is_quotable c = c == 46 || (c == 45 || c == 92)

-- a range in front of others
abbrev pub before : Range → Option (List Range) → Option (List Range)
before r rs = option_map (λ (others : List Range). r ∷ others) rs

-- the second reading, from left to right, of which the first case that fits counts. A backslash and a byte that may stand behind one: the second.
-- A backslash and any other byte: no set. A byte, `-` and a byte: all from the first to the last. Any byte: itself.
abbrev pub ranges_of : List ℕ → Option (List Range)
ranges_of [] = Some []
ranges_of (a ∷ []) = Some (one a ∷ [])
ranges_of (a ∷ c ∷ []) = cond (a == 92) (cond (is_quotable c) (Some (one c ∷ [])) None) (Some (one a ∷ one c ∷ []))
ranges_of (a ∷ c ∷ d ∷ text) =
    cond (a == 92)
    (cond (is_quotable c) (before (one c) (ranges_of (d ∷ text))) None)
    (cond (c == 45) (before (record { first = a; last = d }) (ranges_of text)) (before (one a) (ranges_of (c ∷ d ∷ text))))

-- a leading `^` turns the set round
abbrev pub is_turned_round : List ℕ → Bool
is_turned_round [] = false
is_turned_round (b ∷ text) = b == 94

-- the text without the `^`
abbrev pub listed : List ℕ → List ℕ
listed [] = []
listed (b ∷ text) = cond (b == 94) text (b ∷ text)

-- a byte of the range
abbrev pub is_within : Range → ℕ → Bool
is_within r b = nat_le r.first b && nat_le b r.last

-- a byte of one of the ranges
abbrev pub is_in : List Range → ℕ → Bool
is_in rs b = list_any (λ r. is_within r b) rs

-- the bytes of the ranges; turned round, all other bytes
abbrev pub set_from : Bool → List Range → ByteSet
set_from round rs = λ b. nat_lt b 256 && cond round (not (is_in rs b)) (is_in rs b)

-- the set that a text between brackets means, if it means one
abbrev pub set_of : List ℕ → Option ByteSet
set_of text = option_map (set_from (is_turned_round text)) (ranges_of (unescaped (listed text)))

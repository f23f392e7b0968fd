-- Zones at the front of a text: an offset from UTC, or a name that Darcs knows.
use Rattle.std.specs.Prelude.{ℕ, ◌+◌, ◌*◌, ◌==◌, Bool, ◌||◌, List, [], ◌∷◌, Option, None, Some, is_some, nat_le, if◌then◌else◌}
use Rattle.dm_date.specs.Pieces.{◌>>=◌, two_digits, number}
use Rattle.dm_date.specs.Names.{zone_name}

-- how many minutes an offset has at most: twelve hours to the west, fourteen to the east
abbrev pub farthest : ℕ → ℕ
farthest sign = if sign == 45 then 720 else 840

-- The hour and the minute at these places are an offset that Darcs reads.
abbrev pub is_near : ℕ → List ℕ → List ℕ → Bool
is_near sign hour minute = nat_le (number hour * 60 + number minute) (farthest sign)

-- the hour and the minute of an offset, behind its sign
unfoldable pub offset_of : ℕ → List ℕ → Option (List ℕ)
offset_of sign hour = do
  minute ← two_digits hour
  rest ← two_digits minute
  if is_near sign hour minute then Some rest else None

abbrev pub is_sign : ℕ → Bool
is_sign c = (c == 43) || (c == 45)

-- a sign, two digits of hours, two of minutes
unfoldable pub offset : List ℕ → Option (List ℕ)
offset [] = None
offset (sign ∷ hour) = if is_sign sign then offset_of sign hour else None

unfoldable pub zone : List ℕ → Option (List ℕ)
zone text = if is_some (offset text) then offset text else zone_name text

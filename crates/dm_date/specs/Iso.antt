-- Dates of ISO 8601, with a time or without: by month and day, by week, or by the day of the year.
use Rattle.std.specs.Prelude.{ℕ, ◌==◌, Bool, true, false, ◌&&◌, ◌||◌, List, [], ◌∷◌, unwrap_or, if◌then◌else◌}
use Rattle.dm_date.specs.Pieces.{◌>>=◌, passes, byte, digit, four_digits, skip_byte, skip_digits, three_digits, two_digits}
use Rattle.dm_date.specs.Zones.{is_near, is_sign, offset_of}
use Rattle.dm_date.specs.Written.{is_empty, month}

-- A minute behind a colon or none, and nothing behind it: with the hour and the sign before it, an offset that Darcs reads.
unfoldable pub is_minute_of : ℕ → List ℕ → List ℕ → Bool
is_minute_of sign hour text = passes is_empty (two_digits (skip_byte 58 text)) && is_near sign hour (skip_byte 58 text)

-- the whole hours of an offset
abbrev pub whole : List ℕ
whole = 48 ∷ 48 ∷ []

-- What follows the hour of an offset: nothing, or a minute.
unfoldable pub is_hour_end : ℕ → List ℕ → List ℕ → Bool
is_hour_end sign hour text = if is_empty text then is_near sign hour whole else is_minute_of sign hour text

-- A sign, an hour, and a minute or none.
unfoldable pub is_offset : List ℕ → Bool
is_offset [] = false
is_offset (sign ∷ hour) = is_sign sign && passes (is_hour_end sign hour) (two_digits hour)

-- Nothing, or a zone: a `Z` or an offset.
unfoldable pub is_zone_or_empty : List ℕ → Bool
is_zone_or_empty text = is_empty text || (passes is_empty (byte 90 text) || is_offset text)

-- a fraction of a second, behind a dot, a comma or neither
unfoldable pub skip_fraction : List ℕ → List ℕ
skip_fraction text = skip_digits (unwrap_or (byte 46 text) (skip_byte 44 text))

-- A second with its fraction, behind a colon or none, and a zone or none.
unfoldable pub is_second : List ℕ → Bool
is_second text = passes (λ rest. is_zone_or_empty (skip_fraction rest)) (two_digits (skip_byte 58 text))

-- A minute, behind a colon or none, then a second or none, and a zone or none.
unfoldable pub is_minute : List ℕ → Bool
is_minute text = passes (λ rest. is_zone_or_empty rest || is_second rest) (two_digits (skip_byte 58 text))

-- An hour, then a minute or none, and a zone or none.
unfoldable pub is_time : List ℕ → Bool
is_time text = passes (λ rest. is_zone_or_empty rest || is_minute rest) (two_digits text)

-- Nothing, or a time behind a space or a `T`.
unfoldable pub is_empty_or_time : List ℕ → Bool
is_empty_or_time [] = true
is_empty_or_time (c ∷ time) = ((c == 32) || (c == 84)) && is_time time

-- The same; the time may also stand there with nothing before it.
unfoldable pub is_any_time : List ℕ → Bool
is_any_time text = is_empty_or_time text || is_time text

-- A day of the month, behind a dash or none, and a time or none.
unfoldable pub is_day : List ℕ → Bool
is_day text = passes is_empty_or_time (two_digits (skip_byte 45 text))

-- A month, behind a dash or none, then a day or none, and a time or none.
unfoldable pub is_month : List ℕ → Bool
is_month text = passes (λ rest. is_empty_or_time rest || is_day rest) (month (skip_byte 45 text))

-- A day of the week, behind a dash or none, and a time or none.
unfoldable pub is_week_day : List ℕ → Bool
is_week_day text = passes is_any_time (digit (skip_byte 45 text))

-- A `W` behind a dash or none, a week, then a day or none, and a time or none.
unfoldable pub is_week : List ℕ → Bool
is_week text = passes (λ rest. is_empty_or_time rest || is_week_day rest) (byte 87 (skip_byte 45 text) >>= two_digits)

-- A day of the year, behind a dash or none, and a time or none.
unfoldable pub is_year_day : List ℕ → Bool
is_year_day text = passes is_any_time (three_digits (skip_byte 45 text))

-- A minus and four digits, and nothing behind them: an offset to the west.
unfoldable pub is_west : List ℕ → Bool
is_west [] = false
is_west (c ∷ hour) = (c == 45) && passes is_empty (offset_of 45 hour)

-- An hour, and an offset to the west. With six digits before the minus, the year is all of the date.
unfoldable pub is_hour_to_the_west : List ℕ → Bool
is_hour_to_the_west text = passes is_west (two_digits text)

-- What follows the year.
unfoldable pub is_rest_of_year : List ℕ → Bool
is_rest_of_year text = is_empty_or_time text || (is_month text || (is_week text || (is_year_day text || is_hour_to_the_west text)))

-- A date such as `2003-04-04T16:56:51Z`, `2003W145` or `2003-094`; the dashes and colons may be left out.
unfoldable pub is_iso : List ℕ → Bool
is_iso text = passes is_rest_of_year (four_digits text)

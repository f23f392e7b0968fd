-- The old form of a date, such as `Fri Apr  4 16:56:51 EST 2003`.
use Rattle.std.specs.Prelude.{ℕ, ◌+◌, ◌-◌, ◌*◌, ◌==◌, Bool, not, ◌&&◌, ◌||◌, List, [], codes, length, take, drop, slice_index, Option, is_some, unwrap_or, nat_le, if◌then◌else◌}
use Rattle.std.specs.List.{list_all}
use Rattle.std.specs.Char.{is_ascii_alphabetic}
use Rattle.dm_date.specs.Pieces.{◌>>=◌, passes, clock, short_day, short_number, spaces}
use Rattle.dm_date.specs.Names.{day_name, month_name, name}
use Rattle.dm_date.specs.Zones.{zone}
use Rattle.dm_date.specs.Digits.{is_last_hour}
use Rattle.dm_date.specs.Written.{is_year}

abbrev pub is_letter_or_space : ℕ → Bool
is_letter_or_space c = is_ascii_alphabetic c || (c == 32)

-- Letters and spaces, the last one a space, and a year.
unfoldable pub is_word_and_year : List ℕ → Bool
is_word_and_year text =
    nat_le 5 (length text) && (is_year (drop (length text - 4) text)
    && ((slice_index text (length text - 5) == 32) && list_all is_letter_or_space (take (length text - 4) text)))

-- A zone, spaces and a year. A word that begins with no zone may be one that Darcs doesn't know.
unfoldable pub is_zone_and_year : List ℕ → Bool
is_zone_and_year text = if is_some (zone text) then passes is_year (zone text >>= spaces) else is_word_and_year text

-- what begins with the month of an old date
unfoldable pub old_month : List ℕ → Option (List ℕ)
old_month text = do
  rest ← day_name text
  spaces rest

-- what begins with its day
unfoldable pub old_day : List ℕ → Option (List ℕ)
old_day text = do
  month ← old_month text
  rest ← month_name month
  spaces rest

-- what begins with its clock
unfoldable pub old_hour : List ℕ → Option (List ℕ)
old_hour text = do
  day ← old_day text
  rest ← short_day day
  spaces rest

-- what begins with its zone
unfoldable pub old_zone : List ℕ → Option (List ℕ)
old_zone text = do
  hour ← old_hour text
  rest ← clock hour
  spaces rest

-- the number of the month that begins a text, if it is the first, or one of the last three
unfoldable pub month_number : List ℕ → ℕ
month_number text =
    if is_some (name (codes "Jan") text) then 1
    else if is_some (name (codes "Oct") text) then 10
    else if is_some (name (codes "Nov") text) then 11
    else if is_some (name (codes "Dec") text) then 12
    else 0

-- the number of the year that ends a text
unfoldable pub last_year : List ℕ → ℕ
last_year text = short_number (drop (length text - 4) text) * 100 + short_number (drop (length text - 2) text)

-- the hours from the start of the month to the clock
abbrev pub old_hours : List ℕ → ℕ
old_hours text = short_number (unwrap_or (old_day text) []) * 24 + short_number (unwrap_or (old_hour text) [])

-- An old date has this hour, whatever its zone: the last one before 1970.
unfoldable pub is_old_last_hour : List ℕ → Bool
is_old_last_hour text = is_last_hour (last_year text) (month_number (unwrap_or (old_month text) [])) (old_hours text)

-- The clock says fifty-nine minutes and fifty-nine seconds.
unfoldable pub is_hour_at_end : List ℕ → Bool
is_hour_at_end clock = (short_number (drop 3 clock) == 59) && (short_number (drop 6 clock) == 59)

-- It is the last second before 1970, where its zone is passed over.
unfoldable pub is_old_last_second : List ℕ → Bool
is_old_last_second text = is_hour_at_end (unwrap_or (old_hour text) []) && is_old_last_hour text

-- An old date.
unfoldable pub is_old : List ℕ → Bool
is_old text = passes is_zone_and_year (old_zone text) && not (is_old_last_second text)

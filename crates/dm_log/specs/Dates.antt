-- How the date of a patch is shown.
use Rattle.std.specs.Prelude.{ℕ, ◌+◌, ◌-◌, ◌*◌, ◌%◌, ◌==◌, Bool, not, ◌&&◌, ◌||◌, List, ◌++◌, codes, length, take, drop, slice_index, if◌then◌else◌, nat_lt}
use Rattle.std.specs.List.{list_all}
use Rattle.std.specs.Int.{is_in_range}
use Rattle.std.specs.Char.{is_ascii_digit}
use Rattle.dm_log.specs.Shown.{shown}

-- the number that the digits at i and after it write
abbrev pub two_digits : List ℕ → ℕ → ℕ
two_digits d i = (slice_index d i - 48) * 10 + (slice_index d (i + 1) - 48)

-- the year has a 29th of February
abbrev pub is_leap : ℕ → Bool
is_leap year = (year % 4 == 0) && (not (year % 100 == 0) || (year % 400 == 0))

-- how many days the month has
abbrev pub days_of : ℕ → ℕ → ℕ
days_of year month =
    if month == 2 then (if is_leap year then 29 else 28)
    else if (month == 4 || month == 6) || (month == 9 || month == 11) then 30
    else 31

-- the digits are the year, the month and the day of a date, in four, two and two of them
abbrev pub is_day : List ℕ → Bool
is_day d = is_in_range 1 12 (two_digits d 4) && is_in_range 1 (days_of (two_digits d 0 * 100 + two_digits d 2) (two_digits d 4)) (two_digits d 6)

-- the hour, the minute and the second that follow are those of a time
abbrev pub is_time : List ℕ → Bool
is_time d = nat_lt (two_digits d 8) 24 && (nat_lt (two_digits d 10) 60 && nat_lt (two_digits d 12) 60)

-- fourteen digits that are a date and a time
abbrev pub is_moment : List ℕ → Bool
is_moment d = (length d == 14) && (list_all is_ascii_digit d && (is_day d && is_time d))

-- the bytes from i to before j
abbrev pub part : List ℕ → ℕ → ℕ → List ℕ
part d i j = take (j - i) (drop i d)

-- year, month and day
abbrev pub day_text : List ℕ → List ℕ
day_text d = part d 0 4 ++ codes "-" ++ part d 4 6 ++ codes "-" ++ part d 6 8 ++ codes " "

-- hour, minute and second, in UTC
abbrev pub time_text : List ℕ → List ℕ
time_text d = part d 8 10 ++ codes ":" ++ part d 10 12 ++ codes ":" ++ part d 12 14 ++ codes " UTC"

-- a date and a time in UTC
abbrev pub moment_text : List ℕ → List ℕ
moment_text d = day_text d ++ time_text d

-- a date and a time in UTC, or what stands in place of one
abbrev pub date_text : List ℕ → List ℕ
date_text d = if is_moment d then moment_text d else shown d

-- year, month and day, as ISO 8601 has them
abbrev pub iso_day : List ℕ → List ℕ
iso_day d = part d 0 4 ++ codes "-" ++ part d 4 6 ++ codes "-" ++ part d 6 8 ++ codes "T"

-- hour, minute and second, in UTC
abbrev pub iso_time : List ℕ → List ℕ
iso_time d = part d 8 10 ++ codes ":" ++ part d 10 12 ++ codes ":" ++ part d 12 14 ++ codes "Z"

-- a date and a time in UTC as ISO 8601 has them, or what stands in place of one
abbrev pub iso_date : List ℕ → List ℕ
iso_date d = if is_moment d then iso_day d ++ iso_time d else d

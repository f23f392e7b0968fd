-- Fourteen digits, and anything behind them.
use Rattle.std.specs.Prelude.{ℕ, ◌+◌, ◌*◌, ◌==◌, Bool, not, ◌&&◌, ◌||◌, List, length, take, nat_le}
use Rattle.std.specs.List.{list_all}
use Rattle.std.specs.Int.{is_in_range}
use Rattle.std.specs.Char.{is_ascii_digit}
use Rattle.dm_date.specs.Pieces.{number_at}

-- There are fourteen bytes or more, and the first fourteen are digits.
abbrev pub begins_with_digits : List ℕ → Bool
begins_with_digits d = nat_le 14 (length d) && list_all is_ascii_digit (take 14 d)

-- the number of the year
abbrev pub year_of : List ℕ → ℕ
year_of d = number_at d 0 * 100 + number_at d 2

-- the hours from the start of the month, whose first day is 1; each day has 24, also where there are too many of them
abbrev pub hours_of : List ℕ → ℕ
hours_of d = number_at d 6 * 24 + number_at d 8

-- The hour is the last one before 1970: by its year, its month and the hours from the start of the month. It may be counted from a
-- month before, or from the one behind.
abbrev pub is_last_hour : ℕ → ℕ → ℕ → Bool
is_last_hour year month hours =
    ((year == 1969) && (((month == 12) && (hours == 31 * 24 + 23)) || (((month == 11) && (hours == 61 * 24 + 23)) || ((month == 10) && (hours == 92 * 24 + 23)))))
    || ((year == 1970) && ((month == 1) && (hours == 23)))

-- the last second before 1970
abbrev pub is_last_second : List ℕ → Bool
is_last_second d = is_last_hour (year_of d) (number_at d 4) (hours_of d) && ((number_at d 10 == 59) && (number_at d 12 == 59))

-- Fourteen digits are year, month, day, hour, minute and second. The month is one of twelve, and the others are any number.
abbrev pub is_moment : List ℕ → Bool
is_moment d = is_in_range 1 12 (number_at d 4) && not (is_last_second d)

-- Dates with a clock, colons between: that of mails, and one with slashes.
use Rattle.std.specs.Prelude.{ℕ, ◌==◌, Bool, true, false, ◌||◌, List, [], ◌∷◌, Option, None, Some, is_some, if◌then◌else◌}
use Rattle.std.specs.Int.{is_in_range}
use Rattle.dm_date.specs.Pieces.{◌>>=◌, passes, byte, clock, digit, four_digits, number, short_day, spaces, two_digits}
use Rattle.dm_date.specs.Names.{day_name, month_name}
use Rattle.dm_date.specs.Zones.{zone}

abbrev pub is_empty : List ℕ → Bool
is_empty [] = true
is_empty (c ∷ rest) = false

-- Four digits, and nothing behind them.
unfoldable pub is_year : List ℕ → Bool
is_year text = passes is_empty (four_digits text)

-- what follows the year of a date such as `Fri, 4 Apr 2003 16:56:51 EST`
unfoldable pub mail_year : List ℕ → Option (List ℕ)
mail_year text = do
  comma ← day_name text
  before_day ← byte 44 comma
  day ← spaces before_day
  before_month ← short_day day
  month ← spaces before_month
  before_year ← month_name month
  year ← spaces before_year
  four_digits year

-- Spaces, a zone that Darcs knows, and nothing behind it.
unfoldable pub is_zone : List ℕ → Bool
is_zone text = passes is_empty (spaces text >>= zone)

-- what follows the clock of such a date
unfoldable pub mail_clock : List ℕ → Option (List ℕ)
mail_clock text = do
  before_hour ← mail_year text
  hour ← spaces before_hour
  clock hour

-- A date such as `Fri, 4 Apr 2003 16:56:51 EST`.
unfoldable pub is_mail : List ℕ → Bool
is_mail text = passes is_zone (mail_clock text)

-- two digits that are a month
unfoldable pub month : List ℕ → Option (List ℕ)
month text = do
  rest ← two_digits text
  if is_in_range 1 12 (number text) then Some rest else None

-- one digit that is a month
unfoldable pub small_month : List ℕ → Option (List ℕ)
small_month [] = None
small_month (c ∷ rest) = if c == 48 then None else digit (c ∷ rest)

-- one digit or two that are a month
unfoldable pub short_month : List ℕ → Option (List ℕ)
short_month text = if is_some (two_digits text) then month text else small_month text

-- what follows the clock of a date such as `2003/4/4 16:56:51 EST`
unfoldable pub slashed_clock : List ℕ → Option (List ℕ)
slashed_clock text = do
  slash ← four_digits text
  month ← byte 47 slash
  second_slash ← short_month month
  day ← byte 47 second_slash
  before_hour ← short_day day
  hour ← spaces before_hour
  clock hour

abbrev pub is_empty_or_zone : List ℕ → Bool
is_empty_or_zone text = is_empty text || is_zone text

-- A date such as `2003/4/4 16:56:51`, with a zone or without.
unfoldable pub is_slashed : List ℕ → Bool
is_slashed text = passes is_empty_or_zone (slashed_clock text)

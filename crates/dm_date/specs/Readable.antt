-- The dates that Darcs can read, where its clock is set to UTC.
use Rattle.std.specs.Prelude.{ℕ, Bool, ◌||◌, List, take, if◌then◌else◌}
use Rattle.dm_date.specs.Digits.{begins_with_digits, is_moment}
use Rattle.dm_date.specs.Old.{is_old}
use Rattle.dm_date.specs.Written.{is_mail, is_slashed}
use Rattle.dm_date.specs.Iso.{is_iso}

abbrev pub is_readable : List ℕ → Bool
is_readable date = if begins_with_digits date then is_moment (take 14 date) else (is_old date || (is_mail date || (is_slashed date || is_iso date)))

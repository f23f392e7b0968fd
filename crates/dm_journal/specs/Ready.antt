-- When a journal may take a text, what it is to have afterwards, and what an opening leaves alone.
use Rattle.std.specs.Prelude.{◌≡◌, ◌⊎◌, ℕ, ◌<◌, ◌^◌, List, [], ◌∷◌, ◌++◌, length}
use Rattle.dm_journal.specs.Device.{IsDurable, LeavesOnly, Moment}
use Rattle.dm_journal.specs.Journal.{Closes, StandsIn}
use Rattle.dm_journal.specs.Reading.{IsEnd}
use Rattle.dm_journal.specs.declared.device.DeviceError.TheVariants.{Failed}
use Rattle.dm_journal.specs.declared.fault.WriteError.{WriteError}
use Rattle.dm_journal.specs.declared.fault.WriteError.TheVariants.{Device, Beside, TooLong, Full}
use Rattle.dm_journal.specs.declared.format.Format.{Format}
use Rattle.dm_journal.specs.declared.journal.Journal.{Journal}

-- the journal has these texts, all of them on the disk, and knows how its file ends
pub record HasTexts {D : Type 0} (seen : D → List ℕ) (may_leave file_may_leave : D → List ℕ → Type 0) (journal : Journal D) (texts : List (List ℕ)) : Type 0 where
  pub rest : List ℕ
  pub begins : Closes journal.end.format (seen journal.device) texts rest
  pub end : IsEnd (seen journal.device) texts rest journal.end begins
  pub durable : IsDurable seen may_leave file_may_leave journal.device

-- the text has more than 2 ^ 40 bytes
abbrev pub IsTooLong : List ℕ → Type 0
IsTooLong text = 2 ^ 40 < length text

-- the file has the format, and stands for the texts, with one more or without it
abbrev pub StandsWithOrWithout : Format → List (List ℕ) → List ℕ → List ℕ → Type 0
StandsWithOrWithout format texts text file = StandsIn format file texts ⊎ StandsIn format file (texts ++ text ∷ [])

-- the file stands for the old texts, in the old format, or for the new ones, in the new format
abbrev pub StandsForEither : Format → List (List ℕ) → Format → List (List ℕ) → List ℕ → Type 0
StandsForEither format old renewed new file = StandsIn format file old ⊎ StandsIn renewed file new

-- the device reads as before, and a crash at any moment since leaves just that
pub record IsUntouched {D : Type 0} (seen : D → List ℕ) (may_leave file_may_leave : D → List ℕ → Type 0) (moment : D → Moment) (left_since : D → ℕ → List ℕ → Type 0) (old new : D) : Type 0 where
  pub same : seen new ≡ seen old
  pub durable : IsDurable seen may_leave file_may_leave new
  pub any_moment : LeavesOnly moment left_since old new (λ c. c ≡ seen old)

-- the new file could not be made
abbrev pub IsBeside : WriteError → Type 0
IsBeside (Beside why) = Unit {0}
IsBeside (Device why) = ⊥
IsBeside TooLong = ⊥
IsBeside Full = ⊥

-- the disk failed
abbrev pub IsFailure : WriteError → Type 0
IsFailure (Beside why) = why ≡ Failed
IsFailure (Device why) = why ≡ Failed
IsFailure TooLong = ⊥
IsFailure Full = ⊥

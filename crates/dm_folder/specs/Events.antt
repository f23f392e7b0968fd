-- What the system was asked, call by call, and what it answered.
use Rattle.std.specs.Prelude.{◌≡◌, ◌==◌, ℕ, if◌then◌else◌, List, ◌++◌, slice_index}

-- one call of the system that was done
pub data Event : Type 0 where
  -- what stands at this place has this mode
  stood : (place : List ℕ) → (mode : ℕ) → Event
  -- the directory at this place was opened
  began : (place : List ℕ) → Event
  -- the directory that was opened last gave these bytes, after those that it gave before
  gave : (bytes : List ℕ) → Event
  -- it has no more
  ended : Event
  -- the file at this place was opened
  opened : (place : List ℕ) → Event
  -- the file that was opened last was read to its end, and gave these bytes
  held : (bytes : List ℕ) → Event

-- the event of this kind
abbrev pub event_of_kind : ℕ → List ℕ → List ℕ → Event
event_of_kind kind numbers text =
    if kind == 0 then stood text (slice_index numbers 1) else
    if kind == 1 then began text else
    if kind == 2 then gave text else
    if kind == 3 then ended else
    if kind == 4 then opened text else
    held text

-- the event that the numbers and the text stand for
abbrev pub event_of : List ℕ → List ℕ → Event
event_of numbers text = event_of_kind (slice_index numbers 0) numbers text

-- nothing that was noted before is lost; the newest event comes first
pub record IsLater (old new : List Event) : Type 0 where
  pub since : List Event
  pub new_is : new ≡ since ++ old

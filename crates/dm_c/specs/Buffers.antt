-- How a text is given to a caller, who has room for some bytes.
use Rattle.std.specs.Prelude.{◌≡◌, ◌<◌, ◌≤◌, ℕ, List, ◌++◌, length, drop}
use Rattle.dm_c.specs.declared.status.Status.{Status}
use Rattle.dm_c.specs.declared.status.Status.TheVariants.{Done, Short}
use Rattle.dm_c.specs.Numbers.{status_number}

-- The text is given: it fits, stands in front of what the room had behind it, and the status is this one; or the room is too small, nothing is written, and
-- the status says so. Either way its length is what is needed.
pub data Gives (done : Status) (text old new : List ℕ) (needed status : ℕ) : Type 0 where
  fits : length text ≤ length old → new ≡ text ++ drop (length text) old → needed ≡ length text → status ≡ status_number done → Gives done text old new needed status
  short : length old < length text → new ≡ old → needed ≡ length text → status ≡ status_number Short → Gives done text old new needed status

-- nothing is given, for this reason: the room and the number are as they were
pub record GivesNothing (why : Status) (old new : List ℕ) (needed needed' status : ℕ) : Type 0 where
  pub room : new ≡ old
  pub number : needed' ≡ needed
  pub says : status ≡ status_number why

-- a text that is one of these is given, or nothing, for one of these reasons
pub data GivesOr (Is : List ℕ → Type 0) (IsWhy : Status → Type 0) (old new : List ℕ) (needed needed' status : ℕ) : Type 0 where
  text : (text : List ℕ) → Is text → Gives Done text old new needed' status → GivesOr Is IsWhy old new needed needed' status
  nothing : (why : Status) → IsWhy why → GivesNothing why old new needed needed' status → GivesOr Is IsWhy old new needed needed' status

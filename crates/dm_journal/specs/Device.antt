-- What the calls of a device do to its file, and what a crash may leave.
use Rattle.std.specs.Prelude.{◌<◌, ◌≡◌, ◌⊎◌, ℕ, ◌+◌, ◌≤◌, max, List, [], ◌++◌, length, take, drop, Result, IsErrOf}
use Rattle.dm_journal.specs.declared.device.DeviceError.{DeviceError}
use Rattle.dm_journal.specs.declared.device.DeviceError.TheVariants.{Failed}

-- new is old with these bytes at this offset
abbrev pub IsWrittenAt : List ℕ → ℕ → List ℕ → List ℕ → Type 0
IsWrittenAt old at bytes new = new ≡ take at old ++ bytes ++ drop (at + length bytes) old

-- after a write of n bytes that a crash cuts short: any bytes in the range and past the old end, the same elsewhere
pub record Torn (at n : ℕ) (old new : List ℕ) : Type 0 where
  pub before : take at new ≡ take at old
  pub after : drop (at + n) new ≡ drop (at + n) old
  pub no_shorter : length old ≤ length new
  pub no_longer : length new ≤ max (length old) (at + n)

-- the bytes before this place are the same
abbrev pub IsSameBefore : ℕ → List ℕ → List ℕ → Type 0
IsSameBefore at old new = take at new ≡ take at old

-- whatever is left here may be left there
abbrev pub Within : (List ℕ → Type 0) → (List ℕ → Type 0) → Type 0
Within here there = (c : List ℕ) → here c → there c

-- whatever a crash may leave now is a step from what it might have left before
abbrev pub Follows : (List ℕ → List ℕ → Type 0) → (List ℕ → Type 0) → (List ℕ → Type 0) → Type 0
Follows step old new = (c : List ℕ) → new c → (d : List ℕ) × old d × step d c

-- a crash leaves this and nothing else
abbrev pub Only : List ℕ → (List ℕ → Type 0) → Type 0
Only file outcomes = (c : List ℕ) → outcomes c → c ≡ file

-- which file it is: the name that it was opened by, and the bytes that it had then
pub record Origin : Type 0 where
  pub name : List ℕ
  pub bytes : List ℕ

-- a moment of a file, and how far its time has gone
pub record Moment : Type 0 where
  pub origin : Origin
  pub time : ℕ

-- of a file without a name, which had nothing
abbrev pub nameless : ℕ → Moment
nameless time = record { origin = record { name = []; bytes = [] }; time = time }

-- a moment of the same file, and none that is earlier
pub record IsSince (before now : Moment) : Type 0 where
  pub same : now.origin ≡ before.origin
  pub later : before.time ≤ now.time

-- time goes on: a crash since t might have left what it might have left before, or what it may leave now
pub record Elapses (before now : Moment) (past since : ℕ → List ℕ → Type 0) (may_leave : List ℕ → Type 0) : Type 0 where
  pub later : IsSince before now
  pub nothing_else : (t : ℕ) (c : List ℕ) → t ≤ before.time → since t c → past t c ⊎ may_leave c
  pub keeps : (t : ℕ) (c : List ℕ) → t ≤ before.time → past t c → since t c

-- it is the same file, and a crash at any moment since old leaves it with P, also as seen from a run that began earlier
pub record LeavesOnly {D : Type 0} (moment : D → Moment) (left_since : D → ℕ → List ℕ → Type 0) (old new : D) (P : List ℕ → Type 0) : Type 0 where
  pub later : IsSince (moment old) (moment new)
  pub each : (c : List ℕ) → left_since new (moment old).time c → P c
  pub before : (t : ℕ) (c : List ℕ) → t ≤ (moment old).time → left_since new t c → left_since old t c ⊎ P c

-- `Failed` is told only where the disk has failed since
pub record HasCause {T : Type 0} (before now : ℕ) (result : Result T DeviceError) : Type 0 where
  pub later : before ≤ now
  pub failed : IsErrOf result Failed → before < now

-- what a read returns is on the disk, and so is the file's name: a crash leaves what the file itself may leave
pub record IsDurable {D : Type 0} (seen : D → List ℕ) (may_leave file_may_leave : D → List ℕ → Type 0) (device : D) : Type 0 where
  pub only : Only (seen device) (may_leave device)
  pub named : Within (may_leave device) (file_may_leave device)

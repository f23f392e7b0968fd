-- Why a file is no journal, and where.
use Rattle.std.specs.Prelude.{◌≡◌, ◌≢◌, ◌⊎◌, ℕ, ◌+◌, ◌<◌, ◌^◌, List, [], ◌++◌, length, take}
use Rattle.std.specs.Int.{w64, to_le_bytes}
use Rattle.dm_journal.specs.declared.format.Format.{Format}
use Rattle.dm_journal.specs.Format.{family, line, unit, filled}
use Rattle.dm_journal.specs.Journal.{IsBlock, IsOpen, Begins, checksum_of, link_after}
use Rattle.dm_journal.specs.declared.fault.Fault.{Fault}
use Rattle.dm_journal.specs.declared.fault.Fault.TheVariants.{NotAJournal, Unknown, Cut, Damaged}

-- fewer bytes than a length and a checksum, or fewer than these and a text of that length, filled up
abbrev pub IsShort : Format → List ℕ → Type 0
IsShort format bytes = (length bytes < 40) ⊎ ((n : ℕ) × (n < 2 ^ 64) × (take 8 bytes ≡ to_le_bytes w64 n) × (length bytes < filled format (40 + n)))

-- less than a unit where a latch is due, or an open latch and less than a block
abbrev pub EndsEarly : Format → List ℕ → List ℕ → Type 0
EndsEarly format link bytes = (length bytes < unit format) ⊎ IsOpen format (IsShort format) bytes

-- a whole block whose checksum isn't that of its text behind the link
pub record HasOtherChecksum (format : Format) (link bytes : List ℕ) : Type 0 where
  pub text : List ℕ
  pub checksum : List ℕ
  pub whole : length checksum ≡ 32
  pub differs : checksum ≢ checksum_of format link text
  pub more : List ℕ
  pub stands : IsBlock format checksum text more bytes

-- an open latch and such a block
abbrev pub IsDamaged : Format → List ℕ → List ℕ → Type 0
IsDamaged format link bytes = IsOpen format (HasOtherChecksum format link) bytes

-- the file is whole blocks up to this place, and what stands there has P
pub record StopsAt (file : List ℕ) (at : ℕ) (P : Format → List ℕ → List ℕ → Type 0) : Type 0 where
  pub format : Format
  pub texts : List (List ℕ)
  pub rest : List ℕ
  pub begins : Begins format file texts rest
  pub place : at + length rest ≡ length file
  pub why : P format (link_after format [] texts) rest

-- the file ends in front of this place, where the first latch is due
pub record EndsInHeader (file : List ℕ) (at : ℕ) : Type 0 where
  pub format : Format
  pub more : List ℕ
  pub is : file ≡ line format ++ more
  pub place : at ≡ filled format (length (line format))
  pub ends : length file < at

-- the file begins with these bytes
abbrev pub BeginsWith : List ℕ → List ℕ → Type 0
BeginsWith front file = (more : List ℕ) × (file ≡ front ++ more)

-- the file has this fault
abbrev pub HasFault : List ℕ → Fault → Type 0
HasFault file NotAJournal = ¬ BeginsWith family file
HasFault file Unknown = BeginsWith family file × ((format : Format) → ¬ BeginsWith (line format) file)
HasFault file (Cut at) = EndsInHeader file at ⊎ StopsAt file at EndsEarly
HasFault file (Damaged at) = StopsAt file at IsDamaged

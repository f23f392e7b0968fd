-- What the private calls of reading and writing tell.
use Rattle.std.specs.Prelude.{◌≡◌, ℕ, ◌+◌, ◌-◌, ◌≤◌, max, List, [], ◌++◌, length, take, drop}
use Rattle.std.proofs.Math.ListN.{replicate}
use Rattle.std.specs.Int.{w64, to_le_bytes}
use Rattle.dm_journal.specs.declared.format.Format.{Format}
use Rattle.dm_journal.specs.Format.{unit, filled}
use Rattle.dm_journal.specs.Journal.{block, checksum_of, IsBlock, IsLatch, IsOpen, IsNext, Begins, Closes, link_after, link_bytes}
use Rattle.dm_journal.specs.Faults.{IsShort, HasOtherChecksum, EndsEarly, IsDamaged, HasFault}
use Rattle.dm_journal.specs.Hidden.{TellsHidden}
use Rattle.dm_journal.specs.Texts.{ranges_of}
use Rattle.dm_journal.specs.declared.device.DeviceError.TheVariants.{Memory}
use Rattle.dm_journal.specs.declared.fault.OpenError.{OpenError}
use Rattle.dm_journal.specs.declared.fault.OpenError.TheVariants.{Device, File}
use Rattle.dm_journal.specs.declared.journal.End.{End as JournalEnd}
use Rattle.dm_journal.specs.declared.reading.Reading.{Reading}
use Rattle.dm_journal.specs.declared.reading.Step.{Step}
use Rattle.dm_journal.specs.declared.reading.Step.TheVariants.{End, Whole, Cut, Damaged}

-- a header, and behind it this place
pub record IsHeaded (file : List ℕ) (format : Format) (at : ℕ) : Type 0 where
  pub reaches : at ≤ length file
  pub begins : Begins format file [] (drop at file)

-- a text of n bytes whose block has so many with what fills it up, and its checksum
pub record IsWhole (format : Format) (link bytes : List ℕ) (n size : ℕ) (checksum : List ℕ) : Type 0 where
  pub reaches : size ≤ length bytes
  pub long : 40 + n ≤ size
  pub is : checksum ≡ checksum_of format link (take n (drop 40 bytes))
  pub stands : IsBlock format (checksum_of format link (take n (drop 40 bytes))) (take n (drop 40 bytes)) (drop size bytes) bytes

-- what stands behind an open latch
abbrev pub StandsBehind : Format → List ℕ → List ℕ → Step → Type 0
StandsBehind format link bytes End = ⊥
StandsBehind format link bytes (Whole n size checksum) = IsWhole format link bytes n size checksum
StandsBehind format link bytes Cut = IsShort format bytes
StandsBehind format link bytes Damaged = HasOtherChecksum format link bytes

-- what stands where a latch is due
abbrev pub StandsAt : Format → List ℕ → List ℕ → Step → Type 0
StandsAt format link bytes End = IsLatch format 0 (drop (unit format) bytes) bytes
StandsAt format link bytes (Whole n size checksum) = IsOpen format (λ behind. IsWhole format link behind n size checksum) bytes
StandsAt format link bytes Cut = EndsEarly format link bytes
StandsAt format link bytes Damaged = IsDamaged format link bytes

-- a fault of the file, or no memory
abbrev pub IsFaultOf : List ℕ → OpenError → Type 0
IsFaultOf file (File fault) = HasFault file fault
IsFaultOf file (Device error) = error ≡ Memory

-- what a journal knows of the end of its file
pub record IsEnd (file : List ℕ) (texts : List (List ℕ)) (behind : List ℕ) (end : JournalEnd) (closes : Closes end.format file texts behind) : Type 0 where
  pub link : link_bytes end.link ≡ link_after end.format [] texts
  pub place : end.latch + length closes.0 ≡ length file
  pub size : end.size ≡ length file

-- what a file says up to its first closed latch
pub record IsReading (file : List ℕ) (reading : Reading) : Type 0 where
  pub rest : List ℕ
  pub begins : Begins reading.format file (ranges_of file reading.ranges.items) rest
  pub behind : List ℕ
  pub closed : IsLatch reading.format 0 behind rest
  pub link : link_bytes reading.link ≡ link_after reading.format [] (ranges_of file reading.ranges.items)
  pub place : reading.latch + length rest ≡ length file
  pub hidden : TellsHidden file reading.hidden

-- the block of a text, and zeros, which fill it up, are a closed latch, and reach as far as the file did
abbrev pub staged : Format → List ℕ → List ℕ → ℕ → List ℕ
staged format checksum text room =
    block checksum text ++ replicate (max (filled format (40 + length text) + unit format) room - (40 + length text)) 0

-- a file of these texts that ends with its closed latch, and what the next block follows on
pub record IsWholeFile (format : Format) (file : List ℕ) (texts : List (List ℕ)) (link : List ℕ) : Type 0 where
  pub rest : List ℕ
  pub begins : Begins format file texts rest
  pub closed : IsLatch format 0 [] rest
  pub is : link ≡ link_after format [] texts

-- the bytes are the header of the format, whatever fills its unit, an open latch, and a text's length in 8 bytes and this checksum
pub record IsFront (format : Format) (n : ℕ) (checksum bytes : List ℕ) : Type 0 where
  pub header : List ℕ
  pub latch : List ℕ
  pub begins : Begins format header [] []
  pub opens : IsLatch format 255 [] latch
  pub is : bytes ≡ header ++ (latch ++ (to_le_bytes w64 n ++ checksum))

-- an open latch and the block of a text join the bytes
pub record IsPushed (format : Format) (link text old new : List ℕ) : Type 0 where
  pub more : List ℕ
  pub is : new ≡ old ++ more
  pub next : IsNext format link text [] more

-- the file stands for the texts, and ends so
pub record EndsSo (file : List ℕ) (texts : List (List ℕ)) (end : JournalEnd) : Type 0 where
  pub behind : List ℕ
  pub closes : Closes end.format file texts behind
  pub is : IsEnd file texts behind end closes

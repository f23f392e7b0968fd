-- That a file has one answer, its parts begin units, and its header tells a turned byte.
use Rattle.std.specs.Prelude.{◌≡◌, ◌≢◌, ◌⊎◌, ◌<◌, ℕ, ◌+◌, ◌*◌, List, ◌∷◌, ◌++◌, length}
use Rattle.dm_journal.specs.declared.format.Format.{Format}
use Rattle.dm_journal.specs.declared.format.Format.TheVariants.{Fields}
use Rattle.dm_journal.specs.declared.format.KindsField.{KindsField}
use Rattle.dm_journal.specs.declared.format.ChecksumField.{ChecksumField}
use Rattle.dm_journal.specs.Format.{line, unit, filling, filled}
use Rattle.dm_journal.specs.Journal.{Begins, StandsIn, StandsFor}
use Rattle.dm_journal.specs.Faults.{BeginsWith, HasFault}
use Rattle.dm_journal.specs.Fields.{UnknownField}
use Rattle.dm_journal.specs.declared.fault.Fault.{Fault}
use Rattle.dm_journal.specs.declared.fault.Fault.TheVariants.{NotAJournal, Unknown}

-- a file stands for at most one list of texts
abbrev pub StandsForOneList : Type 0
StandsForOneList = (file : List ℕ) (a b : List (List ℕ)) → StandsFor file a → StandsFor file b → a ≡ b

-- a file that stands for texts has one format
abbrev pub FilesHaveOneFormat : Type 0
FilesHaveOneFormat = (file : List ℕ) (f g : Format) (a b : List (List ℕ)) → StandsIn f file a → StandsIn g file b → f ≡ g

-- a file that stands for texts has no fault
abbrev pub JournalsHaveNoFault : Type 0
JournalsHaveNoFault = (file : List ℕ) (texts : List (List ℕ)) (fault : Fault) → StandsFor file texts → HasFault file fault → ⊥

-- a file has at most one fault
abbrev pub FilesHaveOneFault : Type 0
FilesHaveOneFault = (file : List ℕ) (a b : Fault) → HasFault file a → HasFault file b → a ≡ b

-- a latch that is due, or closed, begins a unit: as many whole units are in front of it as it takes for the header and the blocks
abbrev pub LatchsBeginUnits : Type 0
LatchsBeginUnits = (format : Format) (file : List ℕ) (texts : List (List ℕ)) (rest : List ℕ) → Begins format file texts rest → (k : ℕ) × (length file ≡ k * unit format + length rest)

-- what fills bytes up to whole units is less than a unit, and fills them up
abbrev pub UnitsAreFilled : Type 0
UnitsAreFilled = (format : Format) (n : ℕ) → (filling format n < unit format) × ((k : ℕ) × (filled format n ≡ k * unit format))

-- the file begins with the header of this format, in which one byte has become another
pub record HasTurned (format : Format) (file : List ℕ) : Type 0 where
  pub front : List ℕ
  pub was : ℕ
  pub becomes : ℕ
  pub behind : List ℕ
  pub header : line format ≡ front ++ was ∷ behind
  pub other : becomes ≢ was
  pub more : List ℕ
  pub is : file ≡ front ++ becomes ∷ (behind ++ more)

-- a file with a turned byte in a header of fields is no journal, or has no header that is known
abbrev pub TurnedFieldsAreTold : Type 0
TurnedFieldsAreTold = (kinds : KindsField) (checksum : ChecksumField) (file : List ℕ) → HasTurned (Fields kinds checksum) file → HasFault file NotAJournal ⊎ HasFault file Unknown

-- no byte that turns in a header makes it one of fields
abbrev pub NoneTurnsIntoFields : Type 0
NoneTurnsIntoFields = (format : Format) (kinds : KindsField) (checksum : ChecksumField) (file : List ℕ) → HasTurned format file → ¬ BeginsWith (line (Fields kinds checksum)) file

-- at most one field of a file is the first that isn't known
abbrev pub FilesHaveOneUnknownField : Type 0
FilesHaveOneUnknownField = (file a b : List ℕ) → UnknownField file a → UnknownField file b → a ≡ b

-- a file with a known header has none
abbrev pub KnownHeadersHaveNone : Type 0
KnownHeadersHaveNone = (format : Format) (file field : List ℕ) → BeginsWith (line format) file → ¬ UnknownField file field

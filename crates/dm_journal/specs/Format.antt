-- The formats of a journal's file, and their units.
use Rattle.std.specs.Prelude.{ℕ, ◌+◌, ◌-◌, ◌%◌, List, codes}
use Rattle.dm_journal.specs.declared.format.Format.{Format}
use Rattle.dm_journal.specs.declared.format.Format.TheVariants.{First, Second, Third, Fields}
use Rattle.dm_journal.specs.declared.format.KindsField.TheVariants.{Six, All}
use Rattle.dm_journal.specs.declared.format.ChecksumField.TheVariants.{Sha256, Lanes}

-- what a file of each version begins with
abbrev pub family : List ℕ
family = codes "dm journal "

-- the header of a format, which its files begin with, without what fills it up
unfoldable pub line : Format → List ℕ
line First = codes "dm journal 1\n"
line Second = codes "dm journal 2\n"
line Third = codes "dm journal 4\n"
line (Fields Six Sha256) = codes "dm journal fields\nkinds six\nchecksum sha256\nbase counted\n\n"
line (Fields All Sha256) = codes "dm journal fields\nkinds all\nchecksum sha256\nbase counted\n\n"
line (Fields Six Lanes) = codes "dm journal fields\nkinds six\nchecksum lanes\nbase counted\n\n"
line (Fields All Lanes) = codes "dm journal fields\nkinds all\nchecksum lanes\nbase counted\n\n"

-- how many bytes a unit has
unfoldable pub unit : Format → ℕ
unit First = 1
unit Second = 4096
unit Third = 4096
unit (Fields kinds checksum) = 4096

-- how many bytes fill n bytes up to whole units
unfoldable pub filling : Format → ℕ → ℕ
filling format n = (unit format - n % unit format) % unit format

-- n bytes, filled up to whole units
abbrev pub filled : Format → ℕ → ℕ
filled format n = n + filling format n

-- the format of a file that takes the place of one of this format: it has named fields, and the checksum by lanes
unfoldable pub renewed : Format → Format
renewed First = Fields Six Lanes
renewed Second = Fields Six Lanes
renewed Third = Fields All Lanes
renewed (Fields kinds checksum) = Fields kinds Lanes

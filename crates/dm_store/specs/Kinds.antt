-- Which kinds of primitives a store reads: the format of its file says so.
use Rattle.dm_named.specs.declared.limits.Kinds.{Kinds}
use Rattle.dm_named.specs.declared.limits.Kinds.TheVariants as read
use Rattle.dm_journal.specs.declared.format.Format.{Format}
use Rattle.dm_journal.specs.declared.format.Format.TheVariants.{First, Second, Third, Fields}
use Rattle.dm_journal.specs.declared.format.KindsField.TheVariants.{Six, All}
use Rattle.dm_journal.specs.declared.format.ChecksumField.TheVariants.{Lanes}
use Rattle.dm_store.specs.declared.store.Store.{Store}

-- the kinds that the file of a format is for: those that its header names, or that its version is for
abbrev pub kinds_of : Format → Kinds
kinds_of First = read.Six
kinds_of Second = read.Six
kinds_of Third = read.All
kinds_of (Fields Six checksum) = read.Six
kinds_of (Fields All checksum) = read.All

-- the format of a new file for these kinds
abbrev pub format_of : Kinds → Format
format_of read.Six = Fields Six Lanes
format_of read.All = Fields All Lanes

-- the kinds that a store reads
abbrev pub kinds_in : {D : Type 0} → Store D → Kinds
kinds_in store = kinds_of store.journal.end.format

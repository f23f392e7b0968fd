-- Which parts are refused, and for which fault; and which texts.
use Rattle.std.specs.Prelude.{ℕ, List}
use Rattle.dm_info.specs.PatchInfo.{PatchInfo, IsInfo, AreLines, Free, is_newline, ends_author, ends_date}
use Rattle.dm_info.specs.Spelling.{NoneStands, StandsInverted}
use Rattle.dm_info.specs.declared.fault.InfoFault.{InfoFault}
use Rattle.dm_info.specs.declared.fault.InfoFault.TheVariants.{BadName, BadAuthor, BadDate, BadLog, NoMemory}
use Rattle.dm_info.specs.declared.fault.InfoReadFault.{InfoReadFault}
use Rattle.dm_info.specs.declared.fault.InfoReadFault.TheVariants as read

-- The parts have this fault, and none that is reported before it. Memory runs out only for parts that have no fault.
abbrev pub IsRefusedFor : PatchInfo → InfoFault → Type 0
IsRefusedFor i BadName = Free is_newline i.name → ⊥
IsRefusedFor i BadAuthor = Free is_newline i.name × (Free ends_author i.author → ⊥)
IsRefusedFor i BadDate = Free is_newline i.name × Free ends_author i.author × (Free ends_date i.date → ⊥)
IsRefusedFor i BadLog = Free is_newline i.name × Free ends_author i.author × Free ends_date i.date × (AreLines i.log → ⊥)
IsRefusedFor i NoMemory = IsInfo i

-- The text has this fault at its front, where a patch info is due. Memory may run out anywhere.
abbrev pub HasReadFault : List ℕ → InfoReadFault → Type 0
HasReadFault text read.BadInfo = NoneStands text
HasReadFault text read.Inverted = StandsInverted text
HasReadFault text read.NoMemory = Unit {0}

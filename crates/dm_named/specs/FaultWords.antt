-- The printed words of the faults.
use Rattle.std.specs.Prelude.{ℕ, List, codes}
use Rattle.dm_named.specs.declared.fault.FaultKind.{FaultKind}
use Rattle.dm_named.specs.declared.fault.FaultKind.TheVariants.{TooLarge, NoNewPatches, BadInfo, Inverted, BadDepends, BadPatch, Unsupported, BadPath}
use Rattle.dm_named.specs.declared.fault.FaultKind.TheVariants.{BadNumber, EmptyHunk, Unclosed, NoContext, Doubled, TooMany, NoMemory, BadHex, BadTokens, BadPreference}

-- the printed word of a fault
abbrev pub fault_word : FaultKind → List ℕ
fault_word TooLarge = codes "too-large"
fault_word NoNewPatches = codes "no-new-patches"
fault_word BadInfo = codes "bad-info"
fault_word Inverted = codes "inverted"
fault_word BadDepends = codes "bad-depends"
fault_word BadPatch = codes "bad-patch"
fault_word Unsupported = codes "unsupported"
fault_word BadPath = codes "bad-path"
fault_word BadNumber = codes "bad-number"
fault_word EmptyHunk = codes "empty-hunk"
fault_word Unclosed = codes "unclosed"
fault_word NoContext = codes "no-context"
fault_word Doubled = codes "doubled"
fault_word TooMany = codes "too-many"
fault_word NoMemory = codes "no-memory"
fault_word BadHex = codes "bad-hex"
fault_word BadTokens = codes "bad-tokens"
fault_word BadPreference = codes "bad-preference"

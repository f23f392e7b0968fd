-- Laws of the text of conflictors.
use Rattle.std.specs.Prelude.{◌≡◌, ◌≢◌, ◌<◌, ℕ, List, ◌++◌}
use Rattle.dm_named.specs.Words.{skipped}
use Rattle.dm_named.specs.Laws.{NoLineOf}
use Rattle.dm_named.specs.Conflictors.{Conflictor, ConflictorText, conflictor_size, IsValidConflictor, IsWritableConflictor}
use Rattle.dm_named.specs.CanonicalConflictors.{conflictor_text}
use Rattle.dm_named.specs.ConflictorFaults.{ConflictorFault}
use Rattle.dm_named.specs.declared.fault.FaultKind.{FaultKind}
use Rattle.dm_named.specs.declared.fault.FaultKind.TheVariants.{NoMemory, TooMany}
use Rattle.dm_named.specs.declared.limits.Limits.{Limits}
use Rattle.dm_named.specs.declared.limits.Kinds.{Kinds}

-- the conflictor stands at the front, its primitives of these kinds, and what is left after it is this, apart from white space before it
pub record ReadsConflictor (kinds : Kinds) (text : List ℕ) (c : Conflictor) (rest : List ℕ) : Type 0 where
  pub after : List ℕ
  pub read : ConflictorText kinds text c after
  pub left : skipped after ≡ skipped rest

-- at most one conflictor of primitives of these kinds stands at the front of a text
abbrev pub OneConflictor : Kinds → Type 0
OneConflictor kinds = (text : List ℕ) (c d : Conflictor) (r s : List ℕ) → ConflictorText kinds text c r → ConflictorText kinds text d s → (c ≡ d) × (r ≡ s)

-- within these limits, a text with a fault but out of memory has no conflictor at its front, or one with too many primitives, and the
-- fault says so
abbrev pub FaultExcludesConflictor : Limits → Type 0
FaultExcludesConflictor limits = (kind : FaultKind) (text here : List ℕ) → kind ≢ NoMemory → ConflictorFault limits kind text here →
    (c : Conflictor) (r : List ℕ) → ConflictorText limits.kinds text c r → (kind ≡ TooMany) × (limits.prims < conflictor_size c)

-- the canonical text of a conflictor of valid primitives of these kinds is read back as that conflictor, before anything but a further
-- line of its last primitive
abbrev pub ConflictorRoundTrip : Kinds → Type 0
ConflictorRoundTrip kinds = (c : Conflictor) (rest : List ℕ) → IsValidConflictor c → IsWritableConflictor kinds c → NoLineOf kinds rest → ReadsConflictor kinds (conflictor_text c ++ rest) c rest

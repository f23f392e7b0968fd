-- Hunks of one file, one after the other.
use Rattle.std.specs.Prelude.{ℕ, List, map}
use Rattle.dm_tree.specs.Trees.{Lines}
use Rattle.dm_prim.specs.InTurn.{InTurn}
use Rattle.dm_chain.specs.Chains.{Token, HunkSteps, inner}
use Rattle.dm_chain.specs.Sums.{Change}

-- a hunk as it stands in a list, and which tokens it takes and adds
pub record FileHunk (I : Type 0) : Type 0 where
  pub line : ℕ
  pub old : Lines
  pub new : Lines
  pub change : Change (Token I)

-- the hunk makes d of c
abbrev pub StepsBy : {I : Type 0} → FileHunk I → List (Token I) → List (Token I) → Type 0
StepsBy h c d = HunkSteps h.line h.old h.new h.change.taken h.change.added c d

-- the hunks in turn make d of c
abbrev pub StepsByAll : {I : Type 0} → List (FileHunk I) → List (Token I) → List (Token I) → Type 0
StepsByAll hs c d = InTurn StepsBy hs c d

-- which tokens they take and add, hunk by hunk
abbrev pub changes_of : {I : Type 0} → List (FileHunk I) → List (Change (Token I))
changes_of hs = map (λ h. h.change) hs

-- the ports within the tokens that a change takes, and those within the tokens that it adds
abbrev pub ports_of : {I : Type 0} → Change (Token I) → Change I
ports_of c = record { taken = inner c.taken; added = inner c.added }

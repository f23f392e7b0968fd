-- What is given to explain a verdict. Which words these are is no contract's.
use Rattle.std.specs.Prelude.{◌≡◌, ◌<◌, ◌⊎◌, ℕ, List, length, Option, Some, None}
use Rattle.dm_repo.specs.Repositories.{Repository}
use Rattle.dm_scratch.specs.declared.verdict.Verdict.{Verdict}
use Rattle.dm_c.specs.declared.numbers.LimitNumbers.{LimitNumbers}
use Rattle.dm_c.specs.declared.numbers.VerdictNumbers.{VerdictNumbers}
use Rattle.dm_c.specs.declared.status.Status.{Status}
use Rattle.dm_c.specs.declared.status.Status.TheVariants.{NoMemory, Nothing, BadNumber, NoRepo}
use Rattle.dm_c.specs.Buffers.{GivesNothing, GivesOr}
use Rattle.dm_c.specs.Calls.{AreNoLimits, IsNoPolicy}
use Rattle.dm_c.specs.Numbers.{IsTellable, verdict_numbers}

-- some bytes
abbrev pub IsSaid : List ℕ → Type 0
IsSaid said = 0 < length said

-- memory ran out, or there is nothing to explain
abbrev pub IsUnsaid : Status → Type 0
IsUnsaid why = (why ≡ NoMemory) ⊎ (why ≡ Nothing)

-- no verdict that can be told has these numbers
abbrev pub IsNoVerdict : VerdictNumbers → Type 0
IsNoVerdict numbers = (verdict : Verdict) → IsTellable verdict → verdict_numbers verdict ≡ numbers → ⊥

-- Some bytes are given to explain a verdict, unless memory runs out or there is nothing to explain; or the numbers stand for nothing, or no repository is held.
pub data Explains (limits : LimitNumbers) (policy : ℕ) (verdict : VerdictNumbers) (repo : Option Repository) (old new : List ℕ) (needed needed' status : ℕ) : Type 0 where
  explained : (r : Repository) → repo ≡ Some r → GivesOr IsSaid IsUnsaid old new needed needed' status → Explains limits policy verdict repo old new needed needed' status
  bad_number : (AreNoLimits limits ⊎ IsNoPolicy policy) ⊎ IsNoVerdict verdict → GivesNothing BadNumber old new needed needed' status
      → Explains limits policy verdict repo old new needed needed' status
  no_repo : repo ≡ None → GivesNothing NoRepo old new needed needed' status → Explains limits policy verdict repo old new needed needed' status

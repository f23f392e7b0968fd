-- What the calls on a repository do.
use Rattle.std.specs.Prelude.{◌≡◌, ◌⊎◌, ℕ, List, [], length, Option, Some, None}
use Rattle.dm_named.specs.declared.fault.ReadFault.{ReadFault}
use Rattle.dm_named.specs.declared.limits.Limits.{Limits}
use Rattle.dm_named.specs.Patches.{Patch}
use Rattle.dm_bundle.specs.Bundles.{Contents}
use Rattle.dm_bundle.specs.Canonical.{bundle_text}
use Rattle.dm_bundle.specs.Faults.{FaultWithin}
use Rattle.dm_repo.specs.declared.policy.Policy.{Policy}
use Rattle.dm_repo.specs.declared.refusal.Refusal.TheVariants as refusals
use Rattle.dm_repo.specs.Repositories.{Repository}
use Rattle.dm_scratch.specs.declared.verdict.Verdict.{Verdict}
use Rattle.dm_scratch.specs.declared.verdict.Verdict.TheVariants.{Malformed, Refused}
use Rattle.dm_scratch.specs.Printing.{line_of}
use Rattle.dm_scratch.specs.Taking.{ReadsWithin, TakesWithin}
use Rattle.dm_scratch.specs.Words.{verdict_text}
use Rattle.dm_c.specs.declared.numbers.LimitNumbers.{LimitNumbers}
use Rattle.dm_c.specs.declared.numbers.VerdictNumbers.{VerdictNumbers}
use Rattle.dm_c.specs.declared.status.Status.{Status}
use Rattle.dm_c.specs.declared.status.Status.TheVariants.{Done, NoMemory, No, BadNumber, NoRepo}
use Rattle.dm_c.specs.Buffers.{Gives, GivesNothing, GivesOr}
use Rattle.dm_c.specs.Numbers.{limit_numbers, policy_number, status_number, status_of, verdict_numbers}

-- the number stands for no policy
abbrev pub IsNoPolicy : ℕ → Type 0
IsNoPolicy number = (policy : Policy) → policy_number policy ≡ number → ⊥

-- these numbers are no limits
abbrev pub AreNoLimits : LimitNumbers → Type 0
AreNoLimits numbers = (limits : Limits) → limit_numbers limits ≡ numbers → ⊥

-- the verdict is told where the status is that the answer is no; else what was told stays
pub data TellsWhyNot (verdict : Verdict) (old new : VerdictNumbers) (status : ℕ) : Type 0 where
  told : status ≡ status_number No → new ≡ verdict_numbers verdict → TellsWhyNot verdict old new status
  untold : (status ≡ status_number No → ⊥) → new ≡ old → TellsWhyNot verdict old new status

-- What is given for a text that is checked within these limits: the canonical text of the bundle that it stands for; or the line of its fault, which is told too; or
-- nothing, since memory ran out.
pub data ChecksWithin (limits : Limits) (text out out' : List ℕ) (needed needed' : ℕ) (verdict verdict' : VerdictNumbers) (status : ℕ) : Type 0 where
  bundle : (b : Contents) → ReadsWithin limits text b → Gives Done (bundle_text b) out out' needed' status → verdict' ≡ verdict
      → ChecksWithin limits text out out' needed needed' verdict verdict' status
  malformed : (fault : ReadFault) → FaultWithin limits text fault.kind fault.at → Gives No (line_of (verdict_text (Malformed fault))) out out' needed' status
      → TellsWhyNot (Malformed fault) verdict verdict' status → ChecksWithin limits text out out' needed needed' verdict verdict' status
  unchecked : GivesNothing NoMemory out out' needed needed' status → verdict' ≡ verdict → ChecksWithin limits text out out' needed needed' verdict verdict' status

-- so is it for limits in numbers, unless they are none
pub data Checks (numbers : LimitNumbers) (text out out' : List ℕ) (needed needed' : ℕ) (verdict verdict' : VerdictNumbers) (status : ℕ) : Type 0 where
  within : (limits : Limits) → limit_numbers limits ≡ numbers → ChecksWithin limits text out out' needed needed' verdict verdict' status
      → Checks numbers text out out' needed needed' verdict verdict' status
  bad_number : AreNoLimits numbers → GivesNothing BadNumber out out' needed needed' status → verdict' ≡ verdict
      → Checks numbers text out out' needed needed' verdict verdict' status

-- an empty repository is begun where none is held, unless memory runs out
pub data Begins (repo repo' : Option Repository) (status : ℕ) : Type 0 where
  begun : (new : Repository) → new.patches ≡ [] → repo ≡ None → repo' ≡ Some new → status ≡ status_number Done → Begins repo repo' status
  unbegun : repo ≡ None → repo' ≡ None → status ≡ status_number NoMemory → Begins repo repo' status
  begun_before : (old : Repository) → repo ≡ Some old → repo' ≡ Some old → status ≡ status_number NoRepo → Begins repo repo' status

-- the verdict is told, unless memory ran out
abbrev pub IsTold : Verdict → VerdictNumbers → VerdictNumbers → Type 0
IsTold (Refused refusals.NoMemory) old new = new ≡ old
IsTold verdict old new = new ≡ verdict_numbers verdict

-- a text is taken, and its verdict told with its status
pub record TakesTold (limits : Limits) (repo : List Patch) (text : List ℕ) (policy : Policy) (old new : VerdictNumbers) (repo' : List Patch) (status : Status) : Type 0 where
  pub verdict : Verdict
  pub takes : TakesWithin limits repo text policy verdict repo'
  pub tells : IsTold verdict old new
  pub says : status ≡ status_of verdict

-- A text is taken into the repository that is held, under limits and a policy in numbers; or the numbers stand for nothing, or none is held, and all stays as it was.
pub data TakesInto (numbers : LimitNumbers) (number : ℕ) (text : List ℕ) (repo repo' : Option Repository) (old new : VerdictNumbers) (status : ℕ) : Type 0 where
  taken : (limits : Limits) → limit_numbers limits ≡ numbers → (policy : Policy) → policy_number policy ≡ number
      → (before after : Repository) → repo ≡ Some before → repo' ≡ Some after
      → (s : Status) → TakesTold limits before.patches text policy old new after.patches s → status ≡ status_number s
      → TakesInto numbers number text repo repo' old new status
  bad_numbers : AreNoLimits numbers ⊎ IsNoPolicy number → repo' ≡ repo → new ≡ old → status ≡ status_number BadNumber
      → TakesInto numbers number text repo repo' old new status
  not_held : repo ≡ None → repo' ≡ None → new ≡ old → status ≡ status_number NoRepo → TakesInto numbers number text repo repo' old new status

-- A text that is this of the repository that is held is given; or nothing, since memory ran out, or for another reason that the repository has; or none is held.
pub data GivesOf (Is : List Patch → List ℕ → Type 0) (IsWhy : List Patch → Status → Type 0) (repo : Option Repository) (old new : List ℕ) (needed needed' status : ℕ) : Type 0 where
  of_held : (r : Repository) → repo ≡ Some r → GivesOr (Is r.patches) (λ why. (why ≡ NoMemory) ⊎ IsWhy r.patches why) old new needed needed' status
      → GivesOf Is IsWhy repo old new needed needed' status
  of_none : repo ≡ None → GivesNothing NoRepo old new needed needed' status → GivesOf Is IsWhy repo old new needed needed' status

-- there is no other reason
abbrev pub NoOther : List Patch → Status → Type 0
NoOther repo why = ⊥

-- how many patches are held
pub data Counts (repo : Option Repository) (old new status : ℕ) : Type 0 where
  counted : (r : Repository) → repo ≡ Some r → new ≡ length r.patches → status ≡ status_number Done → Counts repo old new status
  uncounted : repo ≡ None → new ≡ old → status ≡ status_number NoRepo → Counts repo old new status

-- What is given for a text that is checked, and for a verdict.
use Rattle.std.specs.Prelude.{◌≡◌, ◌⊎◌, ℕ, List, Option, Some, None}
use Rattle.dm_named.specs.declared.fault.FaultKind.TheVariants as kind
use Rattle.dm_named.specs.declared.fault.ReadFault.{ReadFault}
use Rattle.dm_named.specs.declared.limits.Limits.{Limits}
use Rattle.dm_bundle.specs.Bundles.{Contents}
use Rattle.dm_bundle.specs.Canonical.{bundle_text}
use Rattle.dm_bundle.specs.Faults.{FaultWithin}
use Rattle.dm_scratch.specs.declared.verdict.Verdict.{Verdict}
use Rattle.dm_scratch.specs.declared.verdict.Verdict.TheVariants.{Malformed}
use Rattle.dm_scratch.specs.Printing.{line_of}
use Rattle.dm_scratch.specs.Taking.{ReadsWithin}
use Rattle.dm_scratch.specs.Words.{verdict_text}
use Rattle.dm_c.specs.declared.check.Checked.{Checked}
use Rattle.dm_c.specs.declared.numbers.VerdictNumbers.{VerdictNumbers}
use Rattle.dm_c.specs.declared.status.Status.{Status}
use Rattle.dm_c.specs.declared.status.Status.TheVariants.{Done, No, NoMemory, BadNumber}
use Rattle.dm_c.specs.Buffers.{Gives}
use Rattle.dm_c.specs.Calls.{TellsWhyNot}
use Rattle.dm_c.specs.Numbers.{IsTellable, verdict_numbers}

-- the line of the fault of a text
abbrev pub fault_line : ReadFault → List ℕ
fault_line fault = line_of (verdict_text (Malformed fault))

-- the fault isn't of memory, and its line and the fault itself are given
pub record IsUnreadAs (fault : ReadFault) (checked : Checked) : Type 0 where
  pub tellable : fault.kind ≡ kind.NoMemory → ⊥
  pub line : checked.text.items ≡ fault_line fault
  pub tells : checked.fault ≡ Some fault

-- the text stands for a bundle, and this is its canonical text; or it has a fault, and this is its line
pub data IsChecked (limits : Limits) (text : List ℕ) (checked : Checked) : Type 0 where
  is_bundle : (b : Contents) → ReadsWithin limits text b → checked.text.items ≡ bundle_text b → checked.fault ≡ None → IsChecked limits text checked
  is_malformed : (fault : ReadFault) → FaultWithin limits text fault.kind fault.at → IsUnreadAs fault checked → IsChecked limits text checked

-- what was checked is given: with a fault, the status where it fits is that the answer is no, and the fault is told then
abbrev pub GivesFor : Option ReadFault → List ℕ → List ℕ → List ℕ → ℕ → VerdictNumbers → VerdictNumbers → ℕ → Type 0
GivesFor None text out out' needed verdict verdict' status = Gives Done text out out' needed status × (verdict' ≡ verdict)
GivesFor (Some fault) text out out' needed verdict verdict' status = Gives No text out out' needed status × TellsWhyNot (Malformed fault) verdict verdict' status

-- what was checked is given
abbrev pub GivesChecked : Checked → List ℕ → List ℕ → ℕ → VerdictNumbers → VerdictNumbers → ℕ → Type 0
GivesChecked checked out out' needed verdict verdict' status = GivesFor checked.fault checked.text.items out out' needed verdict verdict' status

-- the line of the verdict that these numbers are of
pub record IsVerdictLine (numbers : VerdictNumbers) (line : List ℕ) : Type 0 where
  pub verdict : Verdict
  pub tellable : IsTellable verdict
  pub numbered : verdict_numbers verdict ≡ numbers
  pub printed : line ≡ line_of (verdict_text verdict)

-- there is no line: memory ran out, or no verdict that can be told has these numbers
abbrev pub IsNoVerdictLine : VerdictNumbers → Status → Type 0
IsNoVerdictLine numbers why = (why ≡ NoMemory) ⊎ ((why ≡ BadNumber) × ((verdict : Verdict) → IsTellable verdict → verdict_numbers verdict ≡ numbers → ⊥))

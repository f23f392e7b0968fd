-- What is answered to a text that is checked.
use Rattle.std.specs.Prelude.{◌≡◌, ◌≢◌, ℕ, List, Option, MatchOption}
use Rattle.dm_named.specs.Limits.{standard}
use Rattle.dm_named.specs.declared.limits.Limits.{Limits}
use Rattle.dm_named.specs.declared.fault.FaultKind.TheVariants as kind
use Rattle.dm_named.specs.declared.fault.ReadFault.{ReadFault}
use Rattle.dm_bundle.specs.Bundles.{Contents}
use Rattle.dm_bundle.specs.Canonical.{bundle_text}
use Rattle.dm_bundle.specs.Faults.{FaultWithin}
use Rattle.dm_repo.specs.declared.refusal.Refusal.TheVariants.{NoMemory}
use Rattle.dm_scratch.specs.declared.verdict.Verdict.TheVariants.{Malformed, Refused}
use Rattle.dm_scratch.specs.Taking.{ReadsWithin}
use Rattle.dm_scratch.specs.Words.{verdict_text}
use Rattle.dm_scratch.specs.Printing.{line_of}
use Rattle.dm_deliver.specs.declared.answers.Answer.TheVariants.{Hash}
use Rattle.dm_deliver.specs.declared.hash_rule.HashFault.{HashFault}
use Rattle.dm_deliver.specs.declared.hash_rule.HashRule.TheVariants.{Right}
use Rattle.dm_deliver.specs.Answering.{answer_line}
use Rattle.dm_deliver.specs.Hashes.{HasHashFaultWithin, PassesRuleWithin}
use Rattle.dm_log.specs.Touched.{TellsPaths}
use Rattle.dm_commands.specs.Streams.{GivesWithin}
use Rattle.dm_commands.specs.declared.check.CheckOutput.{CheckOutput}
use Rattle.dm_commands.specs.declared.check.CheckOutput.TheVariants.{Text, Paths}
use Rattle.dm_commands.specs.declared.check.Checked.{Checked}
use Rattle.dm_commands.specs.declared.check.Unread.{Unread}

-- what is printed of a bundle: its canonical text, or the paths that its patches touch
abbrev pub IsOutput : CheckOutput → Contents → List ℕ → Type 0
IsOutput Text b printed = printed ≡ bundle_text b
IsOutput Paths b printed = TellsPaths b.patches printed

-- These bytes and this exit status: what is printed of the bundle that the text stands for, read within these limits; the line of the text's fault; or the
-- line that memory ran out.
pub data ChecksWithin (limits : Limits) (output : CheckOutput) (text printed : List ℕ) (status : ℕ) : Type 0 where
  shown : (b : Contents) → ReadsWithin limits text b → IsOutput output b printed → status ≡ 0 → ChecksWithin limits output text printed status
  malformed : (fault : ReadFault) → FaultWithin limits text fault.kind fault.at → printed ≡ line_of (verdict_text (Malformed fault)) → status ≡ 1
      → ChecksWithin limits output text printed status
  no_memory : printed ≡ line_of (verdict_text (Refused NoMemory)) → status ≡ 1 → ChecksWithin limits output text printed status

-- so is the text that the reader gave
pub record ChecksInputWithin (limits : Limits) (output : CheckOutput) (before after : Option (List ℕ)) (out : List ℕ) (status : ℕ) : Type 0 where
  pub text : List ℕ
  pub gives : GivesWithin limits before after text
  pub checks : ChecksWithin limits output text out status

-- the same, within the standard limits
abbrev pub ChecksInput : CheckOutput → Option (List ℕ) → Option (List ℕ) → List ℕ → ℕ → Type 0
ChecksInput output before after out status = ChecksInputWithin standard output before after out status

-- The same where a right hash is asked for: nothing is refused of the text's hash, and these bytes and this exit status are those of the text; or they are the
-- line of what is wrong with its hash.
pub data ChecksHashWithin (limits : Limits) (output : CheckOutput) (text printed : List ℕ) (status : ℕ) : Type 0 where
  passes : PassesRuleWithin limits Right text → ChecksWithin limits output text printed status → ChecksHashWithin limits output text printed status
  refused : (fault : HashFault) → HasHashFaultWithin limits Right text fault → printed ≡ answer_line (Hash fault) → status ≡ 1
      → ChecksHashWithin limits output text printed status

-- so is the text that the reader gave
pub record ChecksHashInputWithin (limits : Limits) (output : CheckOutput) (before after : Option (List ℕ)) (out : List ℕ) (status : ℕ) : Type 0 where
  pub text : List ℕ
  pub gives : GivesWithin limits before after text
  pub checks : ChecksHashWithin limits output text out status

-- the fault is one of this text, read within these limits, or memory ran out
pub record IsUnreadText (limits : Limits) (text : List ℕ) (unread : Unread) : Type 0 where
  pub same : unread.text.items ≡ text
  pub fault : unread.fault.kind ≢ kind.NoMemory → FaultWithin limits text unread.fault.kind unread.fault.at

-- what is told of a text: that it stands for a bundle, or its fault
abbrev pub IsTold : Limits → List ℕ → Checked → Type 0
IsTold limits text checked = MatchOption checked.unread ((b : Contents) × ReadsWithin limits text b) (IsUnreadText limits text)

-- so is the text that the reader gave
pub record TellsInputWithin (limits : Limits) (before after : Option (List ℕ)) (checked : Checked) : Type 0 where
  pub text : List ℕ
  pub gives : GivesWithin limits before after text
  pub told : IsTold limits text checked

-- the same, within the standard limits
abbrev pub TellsInput : Option (List ℕ) → Option (List ℕ) → Checked → Type 0
TellsInput before after checked = TellsInputWithin standard before after checked

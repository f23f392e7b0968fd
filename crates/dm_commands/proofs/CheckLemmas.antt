-- What a text that is checked is answered, by what was read of it.
use Rattle.std.proofs.Common.{◌≡◌, ◌≢◌, ℕ, List, inl, inr}
use Rattle.dm_named.specs.declared.fault.FaultKind.TheVariants as kind
use Rattle.dm_named.specs.declared.fault.ReadFault.{ReadFault}
use Rattle.dm_named.specs.declared.limits.Limits.{Limits}
use Rattle.dm_bundle.specs.Faults.{FaultWithin}
use Rattle.dm_scratch.specs.declared.verdict.Verdict.{Verdict}
use Rattle.dm_scratch.specs.Taking.{IsUnread}
use Rattle.dm_scratch.specs.Words.{verdict_text}
use Rattle.dm_scratch.specs.Printing.{line_of}
use Rattle.dm_commands.specs.Printing.{status_of}
use Rattle.dm_commands.specs.Checking.{ChecksWithin, malformed, no_memory}
use Rattle.dm_commands.specs.declared.check.CheckOutput.{CheckOutput}

pub unread_checks : (limits : Limits) (output : CheckOutput) (text out : List ℕ) (fault : ReadFault) (v : Verdict) (status : ℕ) → (fault.kind ≢ kind.NoMemory → FaultWithin limits text fault.kind fault.at) → IsUnread fault v
    → out ≡ line_of (verdict_text v) → status ≡ status_of v → ChecksWithin limits output text out status
unread_checks limits output text out fault v status at (inl x) e s = malformed fault (at x.0) (rw x.1 at e) (rw x.1 at s)
unread_checks limits output text out fault v status at (inr x) e s = no_memory (rw x.1 at e) (rw x.1 at s)

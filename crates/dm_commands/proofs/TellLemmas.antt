-- What is told of a text that is checked, by what was read of it.
use Rattle.std.proofs.Common.{◌≡◌, ◌≢◌, ℕ, List, inl, inr, subst}
use Rattle.dm_named.specs.declared.fault.FaultKind.TheVariants as kind
use Rattle.dm_named.specs.declared.fault.ReadFault.{ReadFault}
use Rattle.dm_named.specs.declared.limits.Limits.{Limits}
use Rattle.dm_bundle.specs.Faults.{FaultWithin}
use Rattle.dm_scratch.specs.declared.verdict.Verdict.{Verdict as Outcome}
use Rattle.dm_scratch.specs.Taking.{IsUnread}
use Rattle.dm_deliver.specs.declared.answers.Answer.TheVariants.{Verdict}
use Rattle.dm_told.specs.Told.{TellsText}
use Rattle.dm_commands.specs.Printing.{status_of}
use Rattle.dm_commands.specs.Telling.{TellsWithin, malformed, no_memory}

pub unread_tells : (limits : Limits) (text printed : List ℕ) (fault : ReadFault) (v : Outcome) (status : ℕ) → (fault.kind ≢ kind.NoMemory → FaultWithin limits text fault.kind fault.at) → IsUnread fault v
    → TellsText text (Verdict v) printed → status ≡ status_of v → TellsWithin limits text printed status
unread_tells limits text printed fault v status at (inl x) t s = malformed fault (at x.0) (subst (λ (u : Outcome). TellsText text (Verdict u) printed) x.1 t) (rw x.1 at s)
unread_tells limits text printed fault v status at (inr x) t s = no_memory (subst (λ (u : Outcome). TellsText text (Verdict u) printed) x.1 t) (rw x.1 at s)

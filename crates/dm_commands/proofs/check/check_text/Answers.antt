use Rattle.std.proofs.Common.{◌≢◌, List, ℕ, refl, subst}
use Rattle.dm_named.specs.declared.fault.FaultKind.TheVariants as kind
use Rattle.dm_bundle.specs.Faults.{FaultWithin}
use Rattle.dm_scratch.specs.Taking.{ReadsWithin}
use Rattle.dm_commands.specs.Checking.{ChecksWithin, shown}
use Rattle.dm_scratch.proofs.ReadLemmas.{no_err, reads}
use Rattle.dm_commands.proofs.CheckLemmas.{unread_checks}
use Rattle.dm_commands.proofs.check.check_text.Goals as goal

pub returns-in_ok-out-in-Ok-clause-checks : goal.returns-in_ok-out-in-Ok-clause-checks
returns-in_ok-out-in-Ok-clause-checks c =
    let b = c.in-Ok.bundle in
    let read = reads c.args.limits c.deref.result.now b c.in-Ok.ensures.ok c.in-Ok.ensures.few (λ large. no_err b _ (c.in-Ok.ensures.too_large large)) in
    subst (λ (t : List ℕ). ChecksWithin c.args.limits c.args.output t c.in_ok-out-in-Ok.out.items 0) c.deref.ensures.value (shown b read c.in_ok-out-in-Ok.ensures refl)

pub returns-in_ok-out-in-Ok-clause-told : goal.returns-in_ok-out-in-Ok-clause-told
returns-in_ok-out-in-Ok-clause-told c =
    let b = c.in-Ok.bundle in
    (b, subst (λ (t : List ℕ). ReadsWithin c.args.limits t b) c.deref.ensures.value (reads c.args.limits c.deref.result.now b c.in-Ok.ensures.ok c.in-Ok.ensures.few (λ large. no_err b _ (c.in-Ok.ensures.too_large large))))

pub returns-in_ok-push_verdict-in-Err-clause-checks : goal.returns-in_ok-push_verdict-in-Err-clause-checks
returns-in_ok-push_verdict-in-Err-clause-checks c =
    subst (λ (t : List ℕ). ChecksWithin c.args.limits c.args.output t c.push_verdict.new.out.items c.status_of.result) c.deref.ensures.value
    (unread_checks c.args.limits c.args.output c.deref.result.now c.push_verdict.new.out.items c.in-Err.fault c.unread-verdict.result c.status_of.result c.in-Err.ensures.err c.unread-verdict.ensures
    (rw c.new-line.ensures.items at c.in_ok-push_verdict-in-Err.ensures) c.status_of.ensures)

pub returns-in_ok-push_verdict-in-Err-clause-told : goal.returns-in_ok-push_verdict-in-Err-clause-told
returns-in_ok-push_verdict-in-Err-clause-told c = record {
  same = refl;
  fault = subst (λ (t : List ℕ). c.in-Err.fault.kind ≢ kind.NoMemory → FaultWithin c.args.limits t c.in-Err.fault.kind c.in-Err.fault.at) c.deref.ensures.value c.in-Err.ensures.err;
}

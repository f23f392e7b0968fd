use Rattle.std.proofs.Common.{List, ℕ, refl, subst}
use Rattle.dm_scratch.proofs.ReadLemmas.{no_err, reads}
use Rattle.dm_commands.specs.Telling.{TellsWithin, sound}
use Rattle.dm_commands.proofs.TellLemmas.{unread_tells}
use Rattle.dm_commands.proofs.telling.tell_text.Goals as goal

pub returns-in_ok-line-in-Ok : goal.returns-in_ok-line-in-Ok
returns-in_ok-line-in-Ok c =
    let b = c.in-Ok.bundle in
    let read = reads c.args.limits c.deref.result.now b c.in-Ok.ensures.ok c.in-Ok.ensures.few (λ large. no_err b _ (c.in-Ok.ensures.too_large large)) in
    subst (λ (t : List ℕ). TellsWithin c.args.limits t c.in_ok-line-in-Ok.line.items 0) c.deref.ensures.value (sound b read c.in_ok-line-in-Ok.ensures refl)

pub returns-in_ok-line-in-Err : goal.returns-in_ok-line-in-Err
returns-in_ok-line-in-Err c =
    unread_tells c.args.limits c.args.text.items c.in_ok-line-in-Err.line.items c.in-Err.fault c.unread-verdict.result c.status_of.result (λ other. rw c.deref.ensures.value at (c.in-Err.ensures.err other)) c.unread-verdict.ensures
    (rw c.deref-in-Err.ensures.value at c.in_ok-line-in-Err.ensures) c.status_of.ensures

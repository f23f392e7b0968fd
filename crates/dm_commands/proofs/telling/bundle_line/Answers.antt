use Rattle.std.proofs.Common.{inl, inr}
use Rattle.std.proofs.lemmas.Bool.{false≢true}
use Rattle.dm_scratch.proofs.ReadLemmas.{no_err, reads}
use Rattle.dm_commands.proofs.telling.bundle_line.Goals as goal

pub returns-in_ok-line-in-Ok : goal.returns-in_ok-line-in-Ok
returns-in_ok-line-in-Ok c =
    let b = c.in-Ok.bundle in
    let read = reads c.with_kinds.result c.args.text.now b c.in-Ok.ensures.ok c.in-Ok.ensures.few (λ large. no_err b _ (c.in-Ok.ensures.too_large large)) in
    inl (b, rw c.with_kinds.ensures at read, c.in_ok-line-in-Ok.ensures)

pub returns-in_ok-line-in-Err : goal.returns-in_ok-line-in-Err
returns-in_ok-line-in-Err c =
    inr (c.in-Err.fault, rw c.with_kinds.ensures at (c.in-Err.ensures.err (λ e. false≢true (rw e at c.if-eq.ensures))), c.in_ok-line-in-Err.ensures)

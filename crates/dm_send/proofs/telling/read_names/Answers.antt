use Rattle.std.proofs.Common.{◌≡◌, true, false, inr, sym, ◌∙◌}
use Rattle.std.proofs.lemmas.Result.{err_from_is_err_and}
use Rattle.dm_send.specs.Telling.{has_patches, in_bundle, in_context}
use Rattle.dm_send.proofs.Contexts.{lacks}
use Rattle.dm_send.proofs.telling.read_names.Goals as goal

pub returns-then-not-is_heading_due-clause-fault : goal.returns-then-not-is_heading_due-clause-fault
returns-then-not-is_heading_due-clause-fault g c = λ n. in_bundle (λ k. not_both (c.is_heading_due.ensures.all k)) (c.in-Err.ensures.err n)
  where
    not_both : c.is_heading_due.result ≡ true → ⊥
    not_both e = let f : false ≡ true = sym c.if-not-is_heading_due.true ∙ e in absurd (cc)

pub returns-in_err-names-in-Err-clause-fault : goal.returns-in_err-names-in-Err-clause-fault
returns-in_err-names-in-Err-clause-fault g c =
    let due = c.is_heading_due.ensures.due (search) in
    let p = err_from_is_err_and c.from_residual.result c.from_residual.ensures.1 in
    rw (p.1, p.2) (λ n. let f = c.in_err-names-in-Err.ensures.fault n in in_context (lacks c.args.limits c.args.text.now c.in-Err.fault due c.in-Err.ensures.err) f.0 f.2 f.1)

pub returns-in-Some-clause-names : goal.returns-in-Some-clause-names
returns-in-Some-clause-names g c =
    let due = c.is_heading_due.ensures.due (search) in
    inr (lacks c.args.limits c.args.text.now c.in-Err.fault due c.in-Err.ensures.err, rw c.in-Some.is at c.in_ok-names-in-Err.ensures.found)

pub returns-clause-fault : goal.returns-clause-fault
returns-clause-fault g c =
    let due = c.is_heading_due.ensures.due (search) in
    let found = rw c.in-None.is at c.in_ok-names-in-Err.ensures.found in
    λ n. has_patches due (c.in-Err.ensures.err n) found.0 found.1 found.2

use Rattle.std.proofs.Common.{rules, inl, inr, ⊎_elim}
use Rattle.std.proofs.lemmas.Result.{err_from_is_err_and}
use Rattle.dm_store.proofs.FoldLemmas.{whole_bad, counted_bad}
use Rattle.dm_store.proofs.opening.read_entry.Goals as goal

pub returns-in_err-bundle-clause-err : goal.returns-in_err-bundle-clause-err
returns-in_err-bundle-clause-err c =
    let q = err_from_is_err_and c.from_residual.result c.from_residual.ensures.1 in
    let text = c.in-Some.text.now in
    rw (q.1, q.2) (⊎_elim (λ e. inl e) (λ e. inr (e.0, λ kept. rw c.in-Some.ensures.some (whole_bad c.args.kinds kept text (λ patches. e.1 kept patches)))) c.in_err-bundle.ensures.err)

pub returns-in_err-bundle-2-clause-err : goal.returns-in_err-bundle-2-clause-err
returns-in_err-bundle-2-clause-err c =
    let q = err_from_is_err_and c.from_residual-in_err-bundle-2.result c.from_residual-in_err-bundle-2.ensures.1 in
    let text = c.in-Some-strip_counted.text.now in
    let count = c.in-Some-strip_counted.count in
    rw (q.1, q.2) (⊎_elim (λ e. inl e) (λ e. inr (e.0, λ kept. rw c.in-Some-strip_counted.ensures.some (counted_bad c.args.kinds kept count text (search rules) (λ patches may. e.1 kept patches)))) c.in_err-bundle-2.ensures.err)

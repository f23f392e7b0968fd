use Rattle.std.proofs.Common.{inl, inr, ⊎_elim, refl}
use Rattle.std.proofs.lemmas.Result.{err_from_is_err_and}
use Rattle.dm_tree.proofs.Fronts.{refuted}
use Rattle.dm_store.specs.Keeping.{kept_as}
use Rattle.dm_store.proofs.AgainLemmas.{if_err}
use Rattle.dm_store.proofs.FoldLemmas.{not_taken}
use Rattle.dm_store.proofs.StoredLemmas.{entry_taken}
use Rattle.dm_store.proofs.opening.take_entry.Goals as goal

pub returns-in_err-whole-clause-err : goal.returns-in_err-whole-clause-err
returns-in_err-whole-clause-err c =
    let q = err_from_is_err_and c.from_residual.result c.from_residual.ensures.1 in
    rw (q.1, q.2) (⊎_elim (λ e. inl e) (λ e. inr (e.0, e.1 (kept_as c.args.base c.args.repo.now.patches))) c.in_err-whole.ensures.err)

pub returns-in-Some-clause-err : goal.returns-in-Some-clause-err
returns-in-Some-clause-err c =
    if_err c.take_whole.result _ _ (λ why told. ⊎_elim (λ e. inl e) (λ e. inr (e.0, e.1 c.args.kinds c.args.base c.args.entry.now (rw c.in-Some.is at c.in_ok-whole.ensures.some))) told) c.take_whole.ensures.err

pub returns-then-has_taken-clause-ok : goal.returns-then-has_taken-clause-ok
returns-then-has_taken-clause-ok c =
    inl (entry_taken c.args.kinds c.args.base c.args.repo.now.patches c.args.entry.now c.in-Some-split_entry.policy c.in-Some-split_entry.text.now c.take_in-verdict.result c.take_in-verdict.new.repo.patches
    c.in-Some-split_entry.ensures.some (c.if-has_taken.ensures.0 refl) c.take_in-verdict.ensures)

pub returns-clause-err : goal.returns-clause-err
returns-clause-err c =
    ⊎_elim (λ e. inl e.1)
    (λ e. inr (e.1, not_taken c.args.kinds (kept_as c.args.base c.args.repo.now.patches) c.args.entry.now c.in-Some-split_entry.policy c.in-Some-split_entry.text.now c.take_in-verdict.result c.take_in-verdict.new.repo.patches c.in-Some-split_entry.ensures.some e.0 (refuted c.if-has_taken.ensures) c.take_in-verdict.ensures))
    c.fault_of.ensures

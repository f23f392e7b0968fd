use Rattle.std.proofs.Common.{inl, inr, ⊎_elim, refl}
use Rattle.std.proofs.lemmas.Result.{err_from_is_err_and}
use Rattle.dm_tree.proofs.Fronts.{refuted}
use Rattle.dm_store.specs.Keeping.{kept_as}
use Rattle.dm_store.proofs.AgainLemmas.{entry_bad, entry_of_no_base, whole_takes, counted_takes}
use Rattle.dm_store.proofs.opening.take_whole.Goals as goal

pub returns-in_err-take_all-clause-err : goal.returns-in_err-take_all-clause-err
returns-in_err-take_all-clause-err c =
    let q = err_from_is_err_and c.from_residual.result c.from_residual.ensures.1 in
    rw (q.1, q.2)
    (⊎_elim (λ e. inl e)
    (λ e. inr (
      e.0,
      λ kinds base entry r. entry_bad kinds (kept_as base c.args.repo.now.patches) entry c.args.whole.count c.args.whole.bundle r (λ patches. e.1 kinds base r.text patches r.reads),
    ))
    c.in_err-take_all.ensures.err)

pub returns-in_default-clause-ok : goal.returns-in_default-clause-ok
returns-in_default-clause-ok c = λ kinds base entry r.
    whole_takes kinds (kept_as base c.args.repo.now.patches) entry c.args.whole.count _ c.args.whole.bundle r c.take_all.new.repo.patches c.in_default.is (c.in_ok-take_all.ensures.ok kinds base r.text r.reads) (rw c.patches.ensures.value at c.base_len.ensures)

pub returns-then-not-may_be_base-clause-err : goal.returns-then-not-may_be_base-clause-err
returns-then-not-may_be_base-clause-err c = inr (
  refl,
  λ kinds base entry r. entry_of_no_base kinds (kept_as base c.args.repo.now.patches) entry c.args.whole.count _ c.args.whole.bundle r c.take_all.new.repo.patches c.in-Some.is (c.in_ok-take_all.ensures.ok kinds base r.text r.reads)
      (rw c.patches-2.ensures.value at (refuted c.if-not-may_be_base.ensures)),
)

pub returns-clause-ok : goal.returns-clause-ok
returns-clause-ok c = λ kinds base entry r.
    counted_takes kinds (kept_as base c.args.repo.now.patches) entry c.args.whole.count _ c.args.whole.bundle r c.take_all.new.repo.patches c.in-Some.is (c.in_ok-take_all.ensures.ok kinds base r.text r.reads) (rw c.patches-2.ensures.value at (c.if-not-may_be_base.ensures.0 refl))

use Rattle.std.proofs.Common.{◌++◌, map, ⊎_elim, sym, subst}
use Rattle.std.proofs.lemmas.List.{take_all}
use Rattle.std.proofs.lemmas.Result.{err_from_is_err_and}
use Rattle.dm_store.specs.declared.fault.StoreError.{StoreError}
use Rattle.dm_store.specs.Keeping.{kept_as}
use Rattle.dm_store.specs.Opening.{StopsFor}
use Rattle.dm_store.proofs.AgainLemmas.{behind_more, behind_stops}
use Rattle.dm_store.proofs.opening.take_entries.Goals as goal

pub returns-in_err-base-clause-stops : goal.returns-in_err-base-clause-stops
returns-in_err-base-clause-stops c =
    let q = err_from_is_err_and c.from_residual.result c.from_residual.ensures.1 in
    rw (q.1, q.2)
    (λ before many folds. ⊎_elim (λ e. subst (λ (f : StoreError). StopsFor c.args.kinds (before ++ map (λ text. text.items) c.args.texts.now) f) (sym e) tt)
    (λ e. subst (λ (f : StoreError). StopsFor c.args.kinds (before ++ map (λ text. text.items) c.args.texts.now) f) (sym e.0)
    (behind_stops (λ text. text.items) c.args.kinds c.args.texts.now c.loop-i.i c.args.from _ before (kept_as c.loop-i.base c.loop-i.repo.patches) c.loop-i-test.true many (c.loop-i.invariant before many folds) (rw (c.deref.ensures.value, c.index-texts-i.is) at e.1)))
    c.in_err-base.ensures.err)

pub loop-i-preserved : goal.loop-i-preserved
loop-i-preserved c = λ before many folds.
    behind_more (λ text. text.items) c.args.kinds c.args.texts.now c.loop-i.i _ before (kept_as c.loop-i.base c.loop-i.repo.patches) (kept_as c.in_ok-base.base c.take_entry.new.repo.patches) c.loop-i-test.true (c.loop-i.invariant before many folds) (rw (c.deref.ensures.value, c.index-texts-i.is) at c.in_ok-base.ensures.ok)

pub returns-clause-folds : goal.returns-clause-folds
returns-clause-folds c = λ before many folds. rw (take_all c.loop-i.i c.args.texts.now c.loop-i-test.false) at (c.loop-i.invariant before many folds)

use Rattle.dm_store.specs.Kinds.{kinds_in}
use Rattle.dm_store.specs.Keeping.{kept_in}
use Rattle.dm_store.proofs.KeptBase.{fold_base}
use Rattle.dm_store.proofs.StoredLemmas.{keeps, weakened}
use Rattle.dm_store.proofs.WideLemmas.{for_either, of_all}
use Rattle.dm_store.proofs.store.Store.widen.Goals as goal

pub returns-in-Ok-clause-any_moment : goal.returns-in-Ok-clause-any_moment
returns-in-Ok-clause-any_moment g c =
    let d = g.D.Device in
    let store = c.args.self in
    let kept = kept_in store in
    let keeping = keeps d.seen d.may_leave d.file_may_leave store.journal c.requires.entries kept c.requires.has c.requires.folds in
    rw c.of_parts.ensures.journal
    (weakened d.moment d.left_since _ _ _ _ (for_either (kinds_in store) (d.seen store.journal.device) kept keeping)
    (rw (c.into_parts-device.ensures.device, c.into_parts-device.ensures.repo, c.base-base.ensures) at c.in-Ok.ensures.any_moment))

pub returns-in-Err-clause-any_moment_err : goal.returns-in-Err-clause-any_moment_err
returns-in-Err-clause-any_moment_err g c =
    let d = g.D.Device in
    let store = c.args.self in
    let kept = kept_in store in
    let keeping = keeps d.seen d.may_leave d.file_may_leave store.journal c.requires.entries kept c.requires.has c.requires.folds in
    weakened d.moment d.left_since _ _ _ _ (for_either (kinds_in store) (d.seen store.journal.device) kept keeping)
    (rw (c.into_parts-device.ensures.device, c.into_parts-device.ensures.repo, c.base-base.ensures) at c.in-Err.ensures.any_moment_err)

pub returns-in-Err-clause-too_long : goal.returns-in-Err-clause-too_long
returns-in-Err-clause-too_long g c =
    let store = c.args.self in
    let may = fold_base (kinds_in store) c.requires.entries (kept_in store) c.requires.folds in
    let unfit = rw (c.into_parts-device.ensures.repo, c.base-base.ensures) at c.in-Err.ensures.too_long in
    λ e fits. (unfit e (of_all store.repo.patches) may).1 fits

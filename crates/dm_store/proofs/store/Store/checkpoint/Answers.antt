use Rattle.std.proofs.Common.{ℕ, List, sym, subst}
use Rattle.std.proofs.lemmas.Result.{err_from_is_err_and}
use Rattle.dm_named.specs.declared.limits.Kinds.{Kinds}
use Rattle.dm_tree.proofs.Fronts.{refuted}
use Rattle.dm_journal.specs.Ready.{HasTexts}
use Rattle.dm_store.specs.Kinds.{kinds_in}
use Rattle.dm_store.specs.Keeping.{FoldTo, kept_in}
use Rattle.dm_store.proofs.KeptBase.{fold_base}
use Rattle.dm_store.proofs.KeptKinds.{fold_kinds}
use Rattle.dm_store.proofs.StoredLemmas.{keeps, weakened}
use Rattle.dm_store.proofs.WholeLemmas.{one_of_all, same_keeps}
use Rattle.dm_store.proofs.store.Store.checkpoint.Goals as goal

pub returns-in_err-growth-clause-any_moment : goal.returns-in_err-growth-clause-any_moment
returns-in_err-growth-clause-any_moment g c =
    let d = g.D.Device in
    let kept = kept_in c.args.self.now in
    let keeping = keeps d.seen d.may_leave d.file_may_leave c.args.self.now.journal c.requires.entries kept c.requires.has c.requires.folds in
    weakened d.moment d.left_since _ _ _ _ (same_keeps (kinds_in c.args.self.now) kept) (c.put_repo.ensures.any_moment kept keeping)

pub returns-in_err-growth-clause-stored_beside : goal.returns-in_err-growth-clause-stored_beside
returns-in_err-growth-clause-stored_beside g c =
    let q = err_from_is_err_and c.from_residual.result c.from_residual.ensures.1 in
    rw (q.1, q.2) (λ beside. record {
      entries = c.requires.entries;
      has = c.in_err-growth.ensures.untouched beside c.requires.entries c.requires.has;
      folds = subst (λ (k : Kinds). FoldTo k c.requires.entries (kept_in c.args.self.now)) (sym c.put_repo.ensures.kinds) c.requires.folds;
      grown = c.requires.grown;
    })

pub returns-in_err-growth-clause-failed : goal.returns-in_err-growth-clause-failed
returns-in_err-growth-clause-failed g c =
    let q = err_from_is_err_and c.from_residual.result c.from_residual.ensures.1 in
    rw (q.1, q.2) c.in_err-growth.ensures.failed

pub returns-in_default-clause-fits : goal.returns-in_default-clause-fits
returns-in_default-clause-fits g c =
    let kept = kept_in c.args.self.now in
    let kinds = kinds_in c.args.self.now in
    let unfit = (rw c.in_default.is at c.in_ok-growth.ensures.none) (fold_kinds kinds c.requires.entries kept c.requires.folds) (fold_base kinds c.requires.entries kept c.requires.folds) in
    (λ done. absurd (cc), λ fits. absurd (unfit fits))

pub returns-clause-one_entry : goal.returns-clause-one_entry
returns-clause-one_entry g c =
    let d = g.D.Device in
    let some = refuted c.if-is_empty.ensures in
    λ done. subst (λ (l : List (List ℕ)). HasTexts d.seen d.may_leave d.file_may_leave c.put_repo.new.journal l) (one_of_all c.args.self.now.base c.args.self.now.repo.patches some)
    (rw c.in-Some.is at c.in_ok-growth.ensures.entries)

pub returns-clause-any_moment : goal.returns-clause-any_moment
returns-clause-any_moment g c =
    let d = g.D.Device in
    let kept = kept_in c.args.self.now in
    let keeping = keeps d.seen d.may_leave d.file_may_leave c.args.self.now.journal c.requires.entries kept c.requires.has c.requires.folds in
    weakened d.moment d.left_since _ _ _ _ (same_keeps (kinds_in c.args.self.now) kept) (c.put_repo.ensures.any_moment kept keeping)

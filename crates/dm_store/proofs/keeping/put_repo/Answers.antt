use Rattle.std.proofs.Common.{◌∙◌, [], ◌∷◌, ℕ, List, ap, refl, sym, subst}
use Rattle.std.proofs.lemmas.Result.{err_from_is_err_and}
use Rattle.dm_journal.specs.Ready.{HasTexts}
use Rattle.dm_store.specs.Kinds.{kinds_of}
use Rattle.dm_store.specs.Keeping.{FoldTo, kept_as}
use Rattle.dm_store.specs.Growth.{IsGrowthOf, IsWhole}
use Rattle.dm_store.proofs.GrowthLemmas.{counted_whole, none_grown, whole_grown}
use Rattle.dm_store.proofs.StoredLemmas.{weakened}
use Rattle.dm_store.proofs.WholeLemmas.{fold_whole, nothing_kept, one_of_all, either_keeps, same_kinds}
use Rattle.dm_store.proofs.keeping.put_repo.Goals as goal

pub returns-in_err-replace-clause-any_moment : goal.returns-in_err-replace-clause-any_moment
returns-in_err-replace-clause-any_moment g c =
    let d = g.D.Device in
    let own = c.args.journal.now.end.format in
    λ old keeps. weakened d.moment d.left_since _ _ _ _ (either_keeps keeps.format own keeps.entries [] old (kept_as c.args.base c.args.repo.now.patches) keeps.is_for keeps.folds (nothing_kept c.args.base c.args.repo.now.patches c.if-base-eq0.true (c.if-is_empty.ensures.0 refl)))
    (c.replace.ensures.any_moment keeps.format keeps.entries keeps.stands)

pub returns-in_err-replace-clause-untouched : goal.returns-in_err-replace-clause-untouched
returns-in_err-replace-clause-untouched g c =
    let q = err_from_is_err_and c.from_residual.result c.from_residual.ensures.1 in
    rw (q.1, q.2) c.in_err-replace.ensures.untouched

pub returns-then-base-eq0-clause-any_moment : goal.returns-then-base-eq0-clause-any_moment
returns-then-base-eq0-clause-any_moment g c =
    let d = g.D.Device in
    let own = c.args.journal.now.end.format in
    λ old keeps. weakened d.moment d.left_since _ _ _ _ (either_keeps keeps.format own keeps.entries [] old (kept_as c.args.base c.args.repo.now.patches) keeps.is_for keeps.folds (nothing_kept c.args.base c.args.repo.now.patches c.if-base-eq0.true (c.if-is_empty.ensures.0 refl)))
    (c.replace.ensures.any_moment keeps.format keeps.entries keeps.stands)

pub returns-then-base-eq0-clause-kinds : goal.returns-then-base-eq0-clause-kinds
returns-then-base-eq0-clause-kinds g c =
    ap kinds_of c.in_ok-replace.ensures.format ∙ same_kinds c.args.journal.now.end.format

pub returns-then-base-eq0-clause-grown : goal.returns-then-base-eq0-clause-grown
returns-then-base-eq0-clause-grown g c =
    rw (c.if-is_empty.ensures.0 refl) (none_grown c.of_whole.result c.of_whole.ensures.whole c.of_whole.ensures.since c.of_whole.ensures.entries)

pub returns-in_err-replace_by-clause-any_moment : goal.returns-in_err-replace_by-clause-any_moment
returns-in_err-replace_by-clause-any_moment g c =
    let d = g.D.Device in
    let kept = kept_as c.args.base c.args.repo.now.patches in
    let own = c.args.journal.now.end.format in
    let folds = fold_whole (kinds_of own) c.in-Some.entry.items kept (rw c.in-Some.is at (rw (c.format.ensures) at (rw c.kinds_of-kinds.ensures at c.in_ok-entry.ensures.takes))) in
    λ old keeps. weakened d.moment d.left_since _ _ _ _ (either_keeps keeps.format own keeps.entries (c.in-Some.entry.items ∷ []) old kept keeps.is_for keeps.folds folds)
    (c.replace_by.ensures.any_moment keeps.format keeps.entries keeps.stands)

pub returns-in_err-replace_by-clause-untouched : goal.returns-in_err-replace_by-clause-untouched
returns-in_err-replace_by-clause-untouched g c =
    let q = err_from_is_err_and c.from_residual-in_err-replace_by.result c.from_residual-in_err-replace_by.ensures.1 in
    rw (q.1, q.2) c.in_err-replace_by.ensures.untouched

pub returns-clause-entries : goal.returns-clause-entries
returns-clause-entries g c =
    let d = g.D.Device in
    let is = rw c.in-Some.is at c.in_ok-entry.ensures.entry in
    subst (λ (l : List (List ℕ)). HasTexts d.seen d.may_leave d.file_may_leave c.replace_by.new.self l)
    (ap (λ (e : List ℕ). e ∷ []) is ∙ sym (one_of_all c.args.base c.args.repo.now.patches (rw c.in-Some.is at c.in_ok-entry.ensures.fits).some))
    c.in_ok-replace_by.ensures.acknowledged

pub returns-clause-grown : goal.returns-clause-grown
returns-clause-grown g c =
    let is = rw c.in-Some.is at c.in_ok-entry.ensures.entry in
    let made = c.of_whole-2.ensures in
    subst (λ (l : List (List ℕ)). IsGrowthOf l c.of_whole-2.result)
    (ap (λ (e : List ℕ). e ∷ []) is ∙ sym (one_of_all c.args.base c.args.repo.now.patches (rw c.in-Some.is at c.in_ok-entry.ensures.fits).some))
    (whole_grown c.in-Some.entry.items c.of_whole-2.result (subst IsWhole (sym is) (counted_whole c.args.base _ c.ranges.base.fits)) (made.whole ∙ c.len-bytes.ensures ∙ c.in-Some.entry.ok.0) made.few made.since made.entries)

pub returns-clause-folds : goal.returns-clause-folds
returns-clause-folds g c =
    let kept = kept_as c.args.base c.args.repo.now.patches in
    let is = rw c.in-Some.is at c.in_ok-entry.ensures.entry in
    let own = c.args.journal.now.end.format in
    subst (λ (l : List (List ℕ)). FoldTo (kinds_of own) l kept)
    (ap (λ (e : List ℕ). e ∷ []) is ∙ sym (one_of_all c.args.base c.args.repo.now.patches (rw c.in-Some.is at c.in_ok-entry.ensures.fits).some))
    (fold_whole (kinds_of own) c.in-Some.entry.items kept (rw c.in-Some.is at (rw (c.format.ensures) at (rw c.kinds_of-kinds.ensures at c.in_ok-entry.ensures.takes))))

pub returns-clause-any_moment : goal.returns-clause-any_moment
returns-clause-any_moment g c =
    let d = g.D.Device in
    let kept = kept_as c.args.base c.args.repo.now.patches in
    let own = c.args.journal.now.end.format in
    let folds = fold_whole (kinds_of own) c.in-Some.entry.items kept (rw c.in-Some.is at (rw (c.format.ensures) at (rw c.kinds_of-kinds.ensures at c.in_ok-entry.ensures.takes))) in
    λ old keeps. weakened d.moment d.left_since _ _ _ _ (either_keeps keeps.format own keeps.entries (c.in-Some.entry.items ∷ []) old kept keeps.is_for keeps.folds folds)
    (c.replace_by.ensures.any_moment keeps.format keeps.entries keeps.stands)

pub returns-clause-kinds : goal.returns-clause-kinds
returns-clause-kinds g c =
    ap kinds_of c.in_ok-replace_by.ensures.format ∙ same_kinds c.args.journal.now.end.format

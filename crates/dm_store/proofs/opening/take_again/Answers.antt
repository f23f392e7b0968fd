use Rattle.std.proofs.Common.{◌≡◌, ◌∙◌, ◌∷◌, [], List, ℕ, map, inl, inr, ⊎_elim, ap, refl, sym, subst}
use Rattle.std.proofs.lemmas.Result.{err_from_is_err_and}
use Rattle.dm_named.specs.Patches.{Patch}
use Rattle.dm_store.specs.Keeping.{FoldTo, empty, kept_as}
use Rattle.dm_store.specs.Opening.{IsBadEntry, StopsFor}
use Rattle.dm_store.proofs.AgainLemmas.{none_folds, first_stops, first_and_others, if_ok, if_err}
use Rattle.dm_store.proofs.WholeLemmas.{fold_whole, nothing_kept}
use Rattle.dm_store.proofs.opening.take_again.Goals as goal

pub returns-in_default-clause-folds : goal.returns-in_default-clause-folds
returns-in_default-clause-folds c = none_folds c.args.kinds c.args.entries c.new.result.patches (sym (rw c.in_default.is at c.get.ensures)) c.new.ensures

pub returns-in_err-whole-clause-stops : goal.returns-in_err-whole-clause-stops
returns-in_err-whole-clause-stops c =
    let q = err_from_is_err_and c.from_residual.result c.from_residual.ensures.1 in
    rw (q.1, q.2)
    (first_stops c.args.kinds c.args.entries c.in-Some.first.now _ (sym (rw c.in-Some.is at c.get.ensures)) (⊎_elim (λ e. inl e) (λ e. inr (e.0, e.1 empty)) c.in_err-whole.ensures.err))

pub returns-in_default-2-clause-folds : goal.returns-in_default-2-clause-folds
returns-in_default-2-clause-folds c =
    let same : map (λ text. text.items) c.deref.result.now ≡ c.args.entries = ap (λ l. map (λ text. text.items) l) c.deref.ensures.value ∙ c.in_ok-texts.ensures in
    if_ok c.take_entries.result _ _
    (λ taken folds. subst (λ (l : List (List ℕ)). FoldTo c.args.kinds l (kept_as taken.base taken.repo.patches)) same (folds [] refl (nothing_kept 0 c.new-in_default-2.result.patches refl c.new-in_default-2.ensures)))
    c.take_entries.ensures.folds

pub returns-in_default-2-clause-stops : goal.returns-in_default-2-clause-stops
returns-in_default-2-clause-stops c =
    let same : map (λ text. text.items) c.deref.result.now ≡ c.args.entries = ap (λ l. map (λ text. text.items) l) c.deref.ensures.value ∙ c.in_ok-texts.ensures in
    if_err c.take_entries.result _ _
    (λ e stops. subst (λ (l : List (List ℕ)). StopsFor c.args.kinds l e) same (stops [] refl (nothing_kept 0 c.new-in_default-2.result.patches refl c.new-in_default-2.ensures)))
    c.take_entries.ensures.stops

pub returns-in_err-base-clause-stops : goal.returns-in_err-base-clause-stops
returns-in_err-base-clause-stops c =
    let q = err_from_is_err_and c.from_residual-in_err-base.result c.from_residual-in_err-base.ensures.1 in
    let entry = c.in-Some.first.now in
    let reads = rw c.in-Some-2.is at c.in_ok-whole.ensures.some in
    rw (q.1, q.2)
    (first_stops c.args.kinds c.args.entries entry _ (sym (rw c.in-Some.is at c.get.ensures))
    (⊎_elim (λ e. inl e) (λ e. inr (e.0, subst (λ (l : List Patch). IsBadEntry c.args.kinds (kept_as 0 l) entry) c.new-repo.ensures (e.1 c.args.kinds 0 entry reads))) c.in_err-base.ensures.err))

pub returns-clause-folds : goal.returns-clause-folds
returns-clause-folds c =
    let entry = c.in-Some.first.now in
    let reads = rw c.in-Some-2.is at c.in_ok-whole.ensures.some in
    let texts = ap (λ l. map (λ text. text.items) l) c.deref-2.ensures.value ∙ c.in_ok-texts-2.ensures in
    let same = first_and_others c.args.entries (map (λ text. text.items) c.deref-2.result.now) entry (sym (rw c.in-Some.is at c.get.ensures)) texts in
    let takes = rw c.new-repo.ensures at (c.in_ok-base.ensures.ok c.args.kinds 0 entry reads) in
    if_ok c.take_entries-2.result _ _
    (λ taken folds. subst (λ (l : List (List ℕ)). FoldTo c.args.kinds l (kept_as taken.base taken.repo.patches)) same (folds (entry ∷ []) refl (fold_whole c.args.kinds entry (kept_as c.in_ok-base.base c.take_whole.new.repo.patches) takes)))
    c.take_entries-2.ensures.folds

pub returns-clause-stops : goal.returns-clause-stops
returns-clause-stops c =
    let entry = c.in-Some.first.now in
    let reads = rw c.in-Some-2.is at c.in_ok-whole.ensures.some in
    let texts = ap (λ l. map (λ text. text.items) l) c.deref-2.ensures.value ∙ c.in_ok-texts-2.ensures in
    let same = first_and_others c.args.entries (map (λ text. text.items) c.deref-2.result.now) entry (sym (rw c.in-Some.is at c.get.ensures)) texts in
    let takes = rw c.new-repo.ensures at (c.in_ok-base.ensures.ok c.args.kinds 0 entry reads) in
    if_err c.take_entries-2.result _ _
    (λ e stops. subst (λ (l : List (List ℕ)). StopsFor c.args.kinds l e) same (stops (entry ∷ []) refl (fold_whole c.args.kinds entry (kept_as c.in_ok-base.base c.take_whole.new.repo.patches) takes)))
    c.take_entries-2.ensures.stops

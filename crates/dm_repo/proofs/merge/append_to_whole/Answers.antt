use Rattle.std.proofs.Common.{◌≡◌, ◌+◌, [], inl, inr, refl, ◌∙◌, length}
use Rattle.std.proofs.lemmas.Bool.{false≢true}
use Rattle.std.proofs.lemmas.Result.{err_from_is_err_and}
use Rattle.dm_repo.specs.Folds.{IsStopped}
use Rattle.dm_repo.specs.Weighing.{Fits, FitStops, RefusesBundle, most_patches}
use Rattle.dm_repo.specs.declared.refusal.Refusal.TheVariants.{DoesNotFit}
use Rattle.dm_repo.proofs.Making.{not_below}
use Rattle.dm_repo.proofs.Following.{front_whole, full_whole, merges_whole}
use Rattle.dm_repo.proofs.Steps.{of_place}
use Rattle.dm_repo.proofs.merge.append_to_whole.Goals as goal

pub returns-in-Err : goal.returns-in-Err
returns-in-Err g c = λ b policy front split.
    let repo = c.args.repo.now.patches in
    let new = c.args.new.items in
    let t = c.tree.ensures in
    let w = front_whole repo b split refl t.2 in
    rw c.does_not_fit.ensures
    (of_place (RefusesBundle repo b policy) DoesNotFit (FitStops IsStopped t.0 new) c.in-Err.stop tt (λ x q. (front, [], new, split, (t.0, x, refl, w, q)))
    (rw c.deref.ensures.value at (c.in-Err.ensures t.0 t.1)))

pub returns-then-is_too_many : goal.returns-then-is_too_many
returns-then-is_too_many g c = λ b policy front split.
    let repo = c.args.repo.now.patches in
    let new = c.args.new.items in
    let t = c.tree.ensures in
    let w = front_whole repo b split refl t.2 in
    let u = rw c.deref.ensures.value at (c.in-Ok.ensures t.0 t.1) in
    let f : Fits repo b [] new = record { front = front; bundle_split = split; base = t.0; folds = w; fitted = u.after; leads = u.leads } in
    let count : c.len-2.result ≡ length new = c.len-2.ensures ∙ c.args.new.ok.0 in
    inr (full_whole repo b policy f (inl (rw (c.len.ensures.value, count) at (c.if-is_too_many.ensures.0 refl))))

pub returns-in_err-patches : goal.returns-in_err-patches
returns-in_err-patches g c = λ b policy front split. let p = err_from_is_err_and c.from_residual.result c.from_residual.ensures.1 in rw (p.1, p.2) tt

pub returns : goal.returns
returns g c = λ b policy front split.
    let repo = c.args.repo.now.patches in
    let new = c.args.new.items in
    let t = c.tree.ensures in
    let w = front_whole repo b split refl t.2 in
    let u = rw c.deref.ensures.value at (c.in-Ok.ensures t.0 t.1) in
    let f : Fits repo b [] new = record { front = front; bundle_split = split; base = t.0; folds = w; fitted = u.after; leads = u.leads } in
    let count : c.len-2.result ≡ length new = c.len-2.ensures ∙ c.args.new.ok.0 in
    let few = rw (c.len.ensures.value, count) at (not_below most_patches (c.len.result + c.len-2.result) (λ h. false≢true (c.if-is_too_many.ensures.1 h))) in
    (rw c.in_ok-patches.ensures (merges_whole repo b policy f few), record { before = t.0; folds = t.2; makes = rw c.in_ok-patches.ensures u })

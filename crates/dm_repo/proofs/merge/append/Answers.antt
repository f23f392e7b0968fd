use Rattle.std.proofs.Common.{◌≡◌, ◌+◌, inl, inr, refl, ◌∙◌, length}
use Rattle.std.proofs.lemmas.Bool.{false≢true}
use Rattle.std.proofs.lemmas.List.{length-map}
use Rattle.std.proofs.lemmas.Result.{err_from_is_err_and}
use Rattle.dm_repo.specs.Folds.{IsStopped}
use Rattle.dm_repo.specs.Weighing.{FitStops, RefusesBundle, most_patches}
use Rattle.dm_repo.specs.declared.refusal.Refusal.TheVariants.{Full}
use Rattle.dm_repo.proofs.Steps.{of_place}
use Rattle.dm_repo.proofs.Making.{not_below}
use Rattle.dm_repo.proofs.Depths.{merge_is_full}
use Rattle.dm_repo.proofs.merge.append.Goals as goal

pub returns-then-is_too_many : goal.returns-then-is_too_many
returns-then-is_too_many g c = λ b policy rest new fits m.
    let merged = c.args.merged.items in
    let count : c.len-2.result ≡ length merged = c.len-2.ensures ∙ c.args.merged.ok.0 in
    inr (rest, new, merged, c.args.skipped, fits, m, inl (rw (c.len.ensures.value, count) at (c.if-is_too_many.ensures.0 refl)))

pub returns-in-Err : goal.returns-in-Err
returns-in-Err g c = λ b policy rest new fits m.
    let repo = c.args.repo.now.patches in
    let t = c.tree.ensures in
    rw c.full.ensures
    (of_place (RefusesBundle repo b policy) (λ k. Full) (FitStops IsStopped t.0 c.args.merged.items) c.in-Err.stop tt
    (λ x q. inr (merge_is_full repo b policy c.args.skipped x fits m t.2 q))
    (rw c.deref.ensures.value at (c.in-Err.ensures t.0 t.1)))

pub returns : goal.returns
returns g c = λ b policy rest new fits m.
    let merged = c.args.merged.items in
    let count : c.len-2.result ≡ length merged = c.len-2.ensures ∙ c.args.merged.ok.0 in
    let few = rw (c.len.ensures.value, count) at (not_below most_patches (c.len.result + c.len-2.result) (λ h. false≢true (c.if-is_too_many.ensures.1 h))) in
    let t = c.tree.ensures in
    let u = rw c.deref.ensures.value at (c.in-Ok.ensures t.0 t.1) in (
      record {
        rest = rest;
        new = new;
        new' = merged;
        fits = fits;
        merge = m;
        is_merged = c.in_ok-patches.ensures;
        appends = rw c.in_ok-patches.ensures (record { few = rw (length-map merged (λ x. x.1)) few; tree = t.0; after = u.after; folds = t.2; leads = u.leads });
      },
      record { before = t.0; folds = t.2; makes = rw c.in_ok-patches.ensures u },
    )

pub returns-in_err-patches : goal.returns-in_err-patches
returns-in_err-patches g c = λ b policy rest new fits m. let p = err_from_is_err_and c.from_residual.result c.from_residual.ensures.1 in rw (p.1, p.2) tt

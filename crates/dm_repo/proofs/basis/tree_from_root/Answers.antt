use Rattle.std.proofs.Common.{◌++◌, ◌≤◌, inl, length, sym, take}
use Rattle.std.proofs.lemmas.List.{length-take-le}
use Rattle.dm_repo.specs.Folds.{IsStopped}
use Rattle.dm_repo.specs.Squares.{placed}
use Rattle.dm_repo.specs.Refusals.{IsBeforeFit}
use Rattle.dm_repo.specs.Weighing.{FitStops, RefusesBundle}
use Rattle.dm_repo.specs.declared.policy.Policy.{Policy}
use Rattle.dm_repo.specs.declared.refusal.Refusal.TheVariants.{Full}
use Rattle.dm_repo.proofs.Depths.{front_is_full}
use Rattle.dm_repo.proofs.Making.{new_root}
use Rattle.dm_repo.proofs.Steps.{of_place}
use Rattle.dm_repo.proofs.basis.tree_from_root.Goals as goal

pub slice_bounds-fit_front-end : goal.slice_bounds-fit_front-end
slice_bounds-fit_front-end g c =
    let within : c.args.sides.now.kept ≤ length c.patches.result.now = rw c.patches.ensures.value c.requires in
    sym (length-take-le c.args.sides.now.kept c.patches.result.now within)

pub returns-in-Ok : goal.returns-in-Ok
returns-in-Ok g c = λ b full new split.
    let r = new_root c.new-tree.result c.new-tree.ensures c.tree_is_lawful.ensures.lawful in
    let base = rw (c.patches.ensures.value, c.deref.ensures.value) at (c.in-Ok.ensures r.0 r.1) in
    (base.0, base.1, record { start = r.0; is_root = r.2; runs = base.2 })

pub returns-in-Err : goal.returns-in-Err
returns-in-Err g c = λ b full new split.
    let repo = c.args.repo.now.patches in
    let front = placed (take c.args.sides.now.kept repo) ++ c.args.sides.now.front.items in
    let r = new_root c.new-tree.result c.new-tree.ensures c.tree_is_lawful.ensures.lawful in
    rw c.full.ensures
    (of_place (λ why. IsBeforeFit repo b why × ((policy : Policy) → RefusesBundle repo b policy why)) (λ k. Full) (FitStops IsStopped r.0 front) c.in-Err.stop (tt, λ policy. tt)
    (λ x q. let full = front_is_full repo b x c.patches.ensures.valid split r.2 q in (full, λ policy. inl full))
    (rw (c.patches.ensures.value, c.deref.ensures.value) at (c.in-Err.ensures r.0 r.1)))

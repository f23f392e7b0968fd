use Rattle.std.proofs.Common.{◌++◌, drop}
use Rattle.std.proofs.lemmas.List.{take_rest}
use Rattle.dm_repo.specs.Folds.{IsStopped}
use Rattle.dm_repo.specs.Squares.{patches}
use Rattle.dm_repo.specs.Weighing.{FitStops}
use Rattle.dm_repo.proofs.TakenBack.{end_is, end_trial, only_memory, undone_fits, undone_never_stops}
use Rattle.dm_repo.proofs.Tries.{adds_both, are_trial_paths}
use Rattle.dm_repo.proofs.trial.part_before.Goals as goal

pub returns-in-Ok : goal.returns-in-Ok
returns-in-Ok g c =
    let repo = c.args.repo.now.patches in
    let behind = drop c.args.kept repo in
    let front = c.args.front.now in
    let new = c.args.new.now in
    let ps = c.thin-paths.result.items in
    let tree = c.tree.result.now in
    let part = c.in_ok-part.part in
    let named = rw (c.patches.ensures.value, take_rest repo c.args.kept) at c.in_ok-add_names_of_all.ensures in
    let all = adds_both (behind ++ patches front) (patches new) _ _ _ (adds_both behind (patches front) _ _ _ named c.in_ok-add_names_of_placed.ensures) c.in_ok-add_names_of_placed-2.ensures in
    let n = are_trial_paths _ _ _ ps all c.thin-paths.ensures.tops c.thin-paths.ensures.below in
    let i = rw c.deref.ensures.value at c.in_ok-part.ensures in
    let list = rw (c.patches.ensures.value, take_rest repo c.args.kept) at c.in_ok-undone.ensures in
    let r = rw (c.deref-2.ensures.value, list) at (c.in-Ok.ensures (end_trial repo c.args.kept front new c.patches.ensures.valid tree part ps c.tree.ensures n i) (end_is repo c.args.kept front new c.patches.ensures.valid tree part ps c.tree.ensures n i)) in
    undone_fits repo c.args.kept front new c.patches.ensures.valid tree part ps c.tree.ensures n i c.fit.new.tree r.0 r.1 r.2

pub refused-requires : goal.refused-requires
refused-requires g c =
    let repo = c.args.repo.now.patches in
    let behind = drop c.args.kept repo in
    let front = c.args.front.now in
    let new = c.args.new.now in
    let ps = c.thin-paths.result.items in
    let tree = c.tree.result.now in
    let part = c.in_ok-part.part in
    let named = rw (c.patches.ensures.value, take_rest repo c.args.kept) at c.in_ok-add_names_of_all.ensures in
    let all = adds_both (behind ++ patches front) (patches new) _ _ _ (adds_both behind (patches front) _ _ _ named c.in_ok-add_names_of_placed.ensures) c.in_ok-add_names_of_placed-2.ensures in
    let n = are_trial_paths _ _ _ ps all c.thin-paths.ensures.tops c.thin-paths.ensures.below in
    let i = rw c.deref.ensures.value at c.in_ok-part.ensures in
    let list = rw (c.patches.ensures.value, take_rest repo c.args.kept) at c.in_ok-undone.ensures in
    let s = end_trial repo c.args.kept front new c.patches.ensures.valid tree part ps c.tree.ensures n i in
    only_memory c.in-Err.stop (FitStops IsStopped s c.in_ok-undone.undone.items)
    (λ x f. undone_never_stops repo c.args.kept front new c.patches.ensures.valid tree part ps c.tree.ensures n i c.in_ok-undone.undone.items list x f)
    (rw c.deref-2.ensures.value at (c.in-Err.ensures s (end_is repo c.args.kept front new c.patches.ensures.valid tree part ps c.tree.ensures n i)))

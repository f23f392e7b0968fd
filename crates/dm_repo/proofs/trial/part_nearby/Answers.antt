use Rattle.std.proofs.Common.{◌++◌}
use Rattle.dm_repo.specs.Folds.{IsStopped}
use Rattle.dm_repo.specs.Nearby.{behind, marked}
use Rattle.dm_repo.specs.Weighing.{FitStops}
use Rattle.dm_repo.proofs.NearTakenBack.{near_end, near_end_is, near_undone_fits, near_never_stops}
use Rattle.dm_repo.proofs.TakenBack.{only_memory}
use Rattle.dm_repo.proofs.trial.part_nearby.Goals as goal

pub returns-in-Ok : goal.returns-in-Ok
returns-in-Ok g c = λ front new fn nn.
    let repo = c.args.repo.now.patches in
    let kept = c.args.kept in
    let ps = c.args.nearby.now.paths.items in
    let some = marked c.args.nearby.now.marks.items (behind kept repo) in
    let tree = c.tree.result.now in
    let part = c.in_ok-part.part in
    let i = rw c.deref.ensures.value at c.in_ok-part.ensures in
    let list = rw (c.patches.ensures.value, c.deref-2.ensures.value) at c.in_ok-undone.ensures in
    let s = near_end repo kept some c.lawful.ensures tree part ps c.tree.ensures c.requires.below c.requires.leaves i in
    let e = near_end_is repo kept some c.lawful.ensures tree part ps c.tree.ensures c.requires.below c.requires.leaves i in
    let r = rw (c.deref-3.ensures.value, list) at (c.in-Ok.ensures s e) in
    near_undone_fits repo kept some c.lawful.ensures tree part ps c.tree.ensures c.requires.below c.requires.leaves i front new c.fit.new.tree r.0 fn nn r.1 r.2

pub refused-requires : goal.refused-requires
refused-requires g c =
    let repo = c.args.repo.now.patches in
    let kept = c.args.kept in
    let ps = c.args.nearby.now.paths.items in
    let some = marked c.args.nearby.now.marks.items (behind kept repo) in
    let tree = c.tree.result.now in
    let part = c.in_ok-part.part in
    let i = rw c.deref.ensures.value at c.in_ok-part.ensures in
    let list = rw (c.patches.ensures.value, c.deref-2.ensures.value) at c.in_ok-undone.ensures in
    let s = near_end repo kept some c.lawful.ensures tree part ps c.tree.ensures c.requires.below c.requires.leaves i in
    let e = near_end_is repo kept some c.lawful.ensures tree part ps c.tree.ensures c.requires.below c.requires.leaves i in
    only_memory c.in-Err.stop (FitStops IsStopped s c.in_ok-undone.undone.items)
    (λ x f. near_never_stops repo kept some c.lawful.ensures tree part ps c.tree.ensures c.requires.below c.requires.leaves i c.in_ok-undone.undone.items list x f)
    (rw c.deref-3.ensures.value at (c.in-Err.ensures s e))

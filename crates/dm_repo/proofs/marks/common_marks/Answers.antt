use Rattle.std.proofs.Common.{arith, ◌∙◌, ap, Some}
use Rattle.std.proofs.lemmas.List.{take_all}
use Rattle.dm_bundle.specs.Patches.{infos_of}
use Rattle.dm_repo.proofs.MarksLemmas.{within, up_to_none, up_to_in, up_to_out}
use Rattle.dm_repo.proofs.marks.common_marks.Goals as goal
use Rattle.dm_repo.proofs.marks.common_marks.Goals.{in-None+in_ok-push-in-None, in-Some+in_ok-push-in-Some}

pub loop-patch-init : goal.loop-patch-init
loop-patch-init g c = up_to_none c.args.repo.now.patches c.args.bundle.now.context c.in_ok-common.ensures.1 c.in_ok-held.ensures.items

pub index_mut-requires : goal.index_mut-requires
index_mut-requires g c =
    let l = within (infos_of c.args.repo.now.patches) c.in-Some.k (rw c.in-Some.is at c.in_ok-find.ensures) in
    omega (arith, l, c.loop-patch.invariant.common_is.length_is, c.loop-patch.common.ok.0)

pub loop-patch-preserved : goal.loop-patch-preserved
loop-patch-preserved g c = elim c.match-branch-4.branch [
  | in-None+in_ok-push-in-None w ↦ rw (w.common-is, w.held-is)
      (up_to_out c.args.repo.now.patches c.args.bundle.now.context c.new_patches-patch-items.result.now c.loop-patch.patch-index c.patch-item.result c.loop-patch-test.true c.patch-item.is
      (rw (w.in-None.is, c.info.ensures) at c.in_ok-find.ensures) w.in_ok-push-in-None.ensures.items c.loop-patch.invariant)
  | in-Some+in_ok-push-in-Some w ↦ rw (w.common-is, w.held-is)
      (up_to_in c.args.repo.now.patches c.args.bundle.now.context c.new_patches-patch-items.result.now c.loop-patch.patch-index w.in-Some.k c.patch-item.result c.lawful.ensures c.loop-patch-test.true c.patch-item.is
      ((rw w.in-Some.is at c.in_ok-find.ensures) ∙ ap Some c.info.ensures) w.in_ok-push-in-Some.ensures.items c.loop-patch.invariant)
]

pub returns : goal.returns
returns g c =
    let u = rw (take_all c.loop-patch.patch-index c.new_patches-patch-items.result.now c.loop-patch-test.false, c.new_patches-patch-items.ensures.value) at c.loop-patch.invariant in
    record { knows = c.in_ok-common.ensures.0; common_is = u.common_is; held_is = u.held_is }

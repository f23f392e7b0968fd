use Rattle.std.proofs.Common.{◌∙◌}
use Rattle.dm_agree.proofs.Searching.{sorted_first, sorted_next, sorted_last, two_held, two_brought}
use Rattle.dm_agree.proofs.names.shared_name.Goals as goal

pub loop-place-init : goal.loop-place-init
loop-place-init g c = sorted_first c.new-owners.result c.args.bundles.now c.args.base.now.patches c.new-owners.ensures.empty

pub returns-in-Some : goal.returns-in-Some
returns-in-Some g c =
    two_held c.args.bundles.now c.loop-place.place c.index-bundles-place.result c.new_patches-patches.result.now c.args.base.now.patches c.in-Some.k c.index-patches-k.result c.in_ok-copy_into-in-Some.field-0
    c.loop-place-test.true c.index-bundles-place.is c.new_patches-patches.ensures.value c.in-Some.ensures c.index-patches-k.is (c.in_ok-copy_into-in-Some.ensures ∙ c.info.ensures)

pub returns : goal.returns
returns g c = sorted_last c.loop-place.owners c.args.bundles.now c.args.base.now.patches c.loop-place.place c.loop-place-test.false c.loop-place.invariant

pub returns-in-Some-clash : goal.returns-in-Some-clash
returns-in-Some-clash g c =
    two_brought c.args.bundles.now c.loop-place.place c.index-bundles-place.result c.new_patches-patches.result.now c.args.base.now.patches c.in-Some-clash.count c.in_ok-info-in-Some-clash.info
    c.loop-place-test.true c.index-bundles-place.is c.new_patches-patches.ensures.value (rw c.in-Some-clash.is at c.in_ok-clash.ensures) c.in_ok-info-in-Some-clash.ensures

pub loop-place-preserved : goal.loop-place-preserved
loop-place-preserved g c =
    sorted_next c.args.bundles.now c.loop-place.place c.index-bundles-place.result c.new_patches-patches.result.now c.args.base.now.patches c.loop-place.owners c.note.new.owners
    c.loop-place-test.true c.index-bundles-place.is c.new_patches-patches.ensures.value c.loop-place.invariant c.in-None.ensures (rw c.in-None-clash.is at c.in_ok-clash.ensures) c.in_ok-note.ensures

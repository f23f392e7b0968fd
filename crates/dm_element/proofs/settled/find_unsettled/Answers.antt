use Rattle.std.proofs.Common.{◌+◌, arith}
use borrow.Author.Count.{below_more}
use Rattle.std.proofs.lemmas.List.{length-map}
use Rattle.dm_element.specs.Values.{patch_of, patches_of}
use Rattle.dm_element.proofs.SettledLemmas.{behind, IsSettledAt, settled_here, first_unsettled, all_settled}
use Rattle.dm_element.proofs.settled.find_unsettled.Goals as goal

pub loop-place-init : goal.loop-place-init
loop-place-init g c = λ k l. absurd (omega (arith, l))

pub returns-then-not-branch : goal.returns-then-not-branch
returns-then-not-branch g c = first_unsettled c.args.patches.now c.loop-place.place c.index-patches-place.result c.loop-place-test.true c.index-patches-place.is c.loop-place.invariant
    (rw (behind c.args.patches.now (c.loop-place.place + 1)) at (rw c.if-not-branch.true at c.in_ok-is_settled.ensures))

pub loop-place-preserved : goal.loop-place-preserved
loop-place-preserved g c = below_more (λ k. IsSettledAt (patches_of c.args.patches.now) k) c.loop-place.place c.loop-place.invariant
    (settled_here c.args.patches.now c.loop-place.place c.index-patches-place.result c.loop-place-test.true c.index-patches-place.is (rw (behind c.args.patches.now (c.loop-place.place + 1)) at (rw c.if-not-branch.false at c.in_ok-is_settled.ensures)))

pub returns : goal.returns
returns g c = all_settled (patches_of c.args.patches.now) c.loop-place.place (rw (length-map c.args.patches.now patch_of) c.loop-place-test.false) c.loop-place.invariant

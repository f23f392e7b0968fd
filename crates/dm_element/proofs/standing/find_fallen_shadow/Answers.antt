use Rattle.std.proofs.lemmas.List.Elements.{All-nil}
use Rattle.dm_element.proofs.StandingLemmas.{stand_more, first_fallen, stand_all}
use Rattle.dm_element.proofs.standing.find_fallen_shadow.Goals as goal

pub loop-place-init : goal.loop-place-init
loop-place-init g c = λ s e. All-nil _

pub returns-then-not-branch : goal.returns-then-not-branch
returns-then-not-branch g c = λ s e.
    first_fallen s c.args.shadows.now c.loop-place.place c.index-shadows-place.result c.loop-place-test.true c.index-shadows-place.is (c.loop-place.invariant s e) (rw (c.if-not-branch.true, c.as_slice.ensures.value) at (c.in_ok-stands.ensures s e))

pub loop-place-preserved : goal.loop-place-preserved
loop-place-preserved g c = λ s e.
    stand_more s c.args.shadows.now c.loop-place.place c.index-shadows-place.result c.loop-place-test.true c.index-shadows-place.is (c.loop-place.invariant s e) (rw (c.if-not-branch.false, c.as_slice.ensures.value) at (c.in_ok-stands.ensures s e))

pub returns : goal.returns
returns g c = λ s e. stand_all s c.args.shadows.now c.loop-place.place c.loop-place-test.false (c.loop-place.invariant s e)

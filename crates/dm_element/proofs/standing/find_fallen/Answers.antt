use Rattle.dm_prim.specs.InTurn.{done}
use Rattle.dm_element.specs.Standing.{LeadsWithin, StandsBetween}
use Rattle.dm_element.specs.Values.{element_of}
use Rattle.dm_element.proofs.StandingLemmas.{fallen_there, run_more, run_all}
use Rattle.dm_element.proofs.standing.find_fallen.Goals as goal

pub loop-place-init : goal.loop-place-init
loop-place-init g c = λ s e. (s, e, done)

pub returns-in-Some : goal.returns-in-Some
returns-in-Some g c = λ s e.
    let r = c.loop-place.invariant s e in
    fallen_there c.args.elements.now c.loop-place.place c.index-elements-place.result c.loop-place-test.true c.index-elements-place.is r.2 c.in-Some.fallen (rw c.in-Some.is at (c.in_ok-fallen.ensures r.0 r.1))

pub loop-place-preserved : goal.loop-place-preserved
loop-place-preserved g c = λ s e.
    let r = c.loop-place.invariant s e in
    let t = rw c.in_default.is at (c.in_ok-fallen.ensures r.0 r.1) in
    (t.0, t.1, run_more (StandsBetween LeadsWithin) element_of c.args.elements.now c.loop-place.place c.index-elements-place.result c.loop-place-test.true c.index-elements-place.is {u = t.0} r.2 t.2)

pub returns : goal.returns
returns g c = λ s e.
    let r = c.loop-place.invariant s e in
    (r.0, run_all (StandsBetween LeadsWithin) element_of c.args.elements.now c.loop-place.place c.loop-place-test.false r.2)

use Rattle.dm_element.specs.Values.{element_of}
use Rattle.dm_element.proofs.SettledLemmas.{over_none, over_more, over_not, over_all}
use Rattle.dm_element.proofs.settled.pass_over.Goals as goal

pub loop-second-init : goal.loop-second-init
loop-second-init g c = over_none (element_of c.args.first)

pub returns-in_default : goal.returns-in_default
returns-in_default g c = over_not c.args.row.now c.loop-second.second-index c.second-item.result c.loop-second-test.true c.second-item.is (element_of c.args.first) (element_of c.loop-second.first) c.loop-second.invariant
    (rw (c.in_default.is, c.in_ok-second.ensures) at c.in_ok-_passed.ensures.answer)

pub loop-second-preserved : goal.loop-second-preserved
loop-second-preserved g c = over_more c.args.row.now c.loop-second.second-index c.second-item.result c.loop-second-test.true c.second-item.is (element_of c.args.first) (element_of c.loop-second.first) c.loop-second.invariant
    (rw (c.in-Some.is, c.in_ok-second.ensures) at c.in_ok-_passed.ensures.answer)

pub returns : goal.returns
returns g c = over_all c.args.row.now c.loop-second.second-index (element_of c.args.first) (element_of c.loop-second.first) c.loop-second-test.false c.loop-second.invariant

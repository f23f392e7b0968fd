use Rattle.std.proofs.Common.{arith, ◌∙◌}
use Rattle.dm_element.specs.Elements as elements
use Rattle.dm_element.specs.Elements.{ElementCommutes, ElementListsCommute}
use Rattle.dm_element.specs.Values.{element_of, elements_of}
use Rattle.dm_element.proofs.ElementLemmas.{elements_one}
use Rattle.dm_element.proofs.RowLemmas.{count_of, passed_none, passed_more, passed_not, passed_all}
use Rattle.dm_element.proofs.list.pass.Goals as goal

pub loop-i-init : goal.loop-i-init
loop-i-init g c = (passed_none elements.Element ElementCommutes (element_of c.args.first) (elements_of c.args.row.now.items), c.len-i-end.ensures ∙ c.args.row.now.ok.0)

pub returns-in_default-2 : goal.returns-in_default-2
returns-in_default-2 g c = passed_not elements.Element _ ElementCommutes element_of elements_one (element_of c.args.first) (elements_of c.args.row.now.items) c.loop-i.i c.loop-i.row.items c.pop_front.new.self.items c.in-Some.second (element_of c.loop-i.first)
    (omega (arith, count_of elements.Element _ ElementCommutes element_of elements_one c.args.row.now.items, c.loop-i-test.true, c.loop-i.invariant.1)) c.loop-i.invariant.0 c.in-Some.ensures.items (rw c.in_default-2.is at c.in_ok-passed.ensures.answer)

pub loop-i-preserved : goal.loop-i-preserved
loop-i-preserved g c = (
  passed_more elements.Element _ ElementCommutes element_of elements_one (element_of c.args.first) (elements_of c.args.row.now.items) c.loop-i.i c.loop-i.row.items c.pop_front.new.self.items c.in-Some.second (element_of c.loop-i.first)
      (omega (arith, count_of elements.Element _ ElementCommutes element_of elements_one c.args.row.now.items, c.loop-i-test.true, c.loop-i.invariant.1)) c.loop-i.invariant.0 c.in-Some.ensures.items
      c.push_back.new.self.items c.in-Some-2.passed (element_of c.in-Some-2.moved) (rw c.in-Some-2.is at c.in_ok-passed.ensures.answer) c.in-Ok.ensures.items,
  c.loop-i.invariant.1,
)

pub returns : goal.returns
returns g c = passed_all elements.Element ElementCommutes (element_of c.args.first) (elements_of c.args.row.now.items) (elements_of c.loop-i.row.items) (element_of c.loop-i.first) c.loop-i.i
    (omega (arith, count_of elements.Element _ ElementCommutes element_of elements_one c.args.row.now.items, c.loop-i-test.false, c.loop-i.invariant.1)) c.loop-i.invariant.0

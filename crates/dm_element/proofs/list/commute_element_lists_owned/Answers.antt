use Rattle.std.proofs.Common.{arith, ap, ◌∙◌}
use Rattle.dm_element.specs.Elements as elements
use Rattle.dm_element.specs.Elements.{ElementCommutes, ElementListsCommute}
use Rattle.dm_element.specs.Values.{element_of, elements_of}
use Rattle.dm_element.proofs.ElementLemmas.{elements_one}
use Rattle.dm_element.proofs.ListLemmas.{list_laws}
use Rattle.dm_element.proofs.RowLemmas.{count_of, commuted_none, commuted_more, commuted_not, commuted_all}
use Rattle.dm_element.proofs.list.commute_element_lists_owned.Given as given
use Rattle.dm_element.proofs.list.commute_element_lists_owned.Goals as goal

pub loop-i-init : goal.loop-i-init
loop-i-init g c = (
  commuted_none elements.Element ElementCommutes (elements_of c.args.es.items) (elements_of c.args.fs.items) (elements_of c.from-row.result.items) (elements_of c.from-moved.result.items)
      (ap (λ z. elements_of z) c.from-row.ensures.0) (ap (λ z. elements_of z) c.from-moved.ensures.0),
  c.len-i-end.ensures ∙ c.from-moved.ensures.1 ∙ c.args.es.ok.0,
)

pub unreachable-requires : goal.unreachable-requires
unreachable-requires g c = omega (arith, c.loop-i-test.true, c.loop-i.invariant.1, c.loop-i.invariant.0.size, count_of elements.Element _ ElementCommutes element_of elements_one c.loop-i.moved.items, count_of elements.Element _ ElementCommutes element_of elements_one c.args.es.items, c.loop-i.moved.ok.0, c.in_default.ensures.cases.0)

pub returns-in_default-2-clause-answer : goal.returns-in_default-2-clause-answer
returns-in_default-2-clause-answer g c = commuted_not elements.Element _ ElementCommutes element_of elements_one (elements_of c.args.es.items) (elements_of c.args.fs.items) (elements_of c.loop-i.row.items) c.loop-i.i c.loop-i.moved.items c.pop_back.new.self.items c.in-Some.last
    (omega (arith, count_of elements.Element _ ElementCommutes element_of elements_one c.args.es.items, c.loop-i-test.true, c.loop-i.invariant.1)) c.loop-i.invariant.0 c.in-Some.ensures.items (rw c.in_default-2.is at c.in_ok-passed.ensures)

pub loop-i-preserved : goal.loop-i-preserved
loop-i-preserved g c = (
  commuted_more elements.Element _ ElementCommutes element_of elements_one (elements_of c.args.es.items) (elements_of c.args.fs.items) (elements_of c.loop-i.row.items) c.loop-i.i c.loop-i.moved.items c.pop_back.new.self.items c.in-Some.last
      (omega (arith, count_of elements.Element _ ElementCommutes element_of elements_one c.args.es.items, c.loop-i-test.true, c.loop-i.invariant.1)) c.loop-i.invariant.0 c.in-Some.ensures.items
      c.push_front.new.self.items c.in-Some-2.passed (elements_of c.pass.new.row.items) (rw c.in-Some-2.is at c.in_ok-passed.ensures) c.in-Ok.ensures.items,
  c.loop-i.invariant.1,
)

both : (g : given.Over) (c : goal.After-from-2 g) → ElementListsCommute (elements_of c.args.es.items) (elements_of c.args.fs.items) (elements_of c.from.result.items) (elements_of c.from-2.result.items)
both g c = rw (ap (λ z. elements_of z) c.from.ensures.0, ap (λ z. elements_of z) c.from-2.ensures.0)
    (commuted_all elements.Element ElementCommutes (elements_of c.args.es.items) (elements_of c.args.fs.items) (elements_of c.loop-i.row.items) (elements_of c.loop-i.moved.items) c.loop-i.i
    (omega (arith, count_of elements.Element _ ElementCommutes element_of elements_one c.args.es.items, c.loop-i-test.false, c.loop-i.invariant.1)) c.loop-i.invariant.0)

pub returns-clause-answer : goal.returns-clause-answer
returns-clause-answer g c = both g c

pub returns-clause-laws : goal.returns-clause-laws
returns-clause-laws g c = list_laws (both g c)

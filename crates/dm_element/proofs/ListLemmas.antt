-- The laws of a list of elements, together.
use Rattle.std.proofs.Common.{List}
use Rattle.dm_element.specs.Elements.{Element, ElementListsCommute}
use Rattle.dm_element.specs.Laws.{ElementListLaws}
use Rattle.dm_element.proofs.ElementLemmas.{element_lists_back, element_lists_past_inverse, elements_end_alike}

pub list_laws : {es fs fs' es' : List Element} → ElementListsCommute es fs fs' es' → ElementListLaws es fs fs' es'
list_laws {es} {fs} {fs'} {es'} g = record {
  ends_alike = elements_end_alike es fs fs' es' g;
  back = element_lists_back es fs fs' es' g;
  past_inverse = element_lists_past_inverse es fs fs' es' g;
}

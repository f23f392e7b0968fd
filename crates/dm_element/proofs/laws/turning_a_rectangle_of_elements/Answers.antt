use Rattle.dm_element.proofs.ElementLemmas.{element_rectangles_turn}
use Rattle.dm_element.proofs.laws.turning_a_rectangle_of_elements.Goals as goal

pub returns : goal.returns
returns c = element_rectangles_turn

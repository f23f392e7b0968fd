use Rattle.dm_prim.proofs.LawProofs.{rectangles_turn}
use Rattle.dm_prim.proofs.laws.turning_a_rectangle.Goals as goal

pub returns : goal.returns
returns c = rectangles_turn

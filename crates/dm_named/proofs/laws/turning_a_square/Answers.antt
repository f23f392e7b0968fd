use Rattle.dm_prim.proofs.LawProofs.{rectangles_turn}
use Rattle.dm_named.proofs.laws.turning_a_square.Goals as goal

pub returns : goal.returns
returns c = λ r n n' r' g. rectangles_turn r.prims n.prims n'.prims r'.prims g

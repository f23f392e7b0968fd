use Rattle.dm_converge.proofs.Orders as proof
use Rattle.dm_converge.proofs.laws.names_make_the_tree.Goals as goal

pub returns : goal.returns
returns g c = proof.names_make_the_tree _

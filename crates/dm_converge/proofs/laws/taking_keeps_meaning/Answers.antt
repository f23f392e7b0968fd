use Rattle.dm_converge.proofs.Taking as proof
use Rattle.dm_converge.proofs.laws.taking_keeps_meaning.Goals as goal

pub returns : goal.returns
returns g c = proof.taking_keeps_meaning _

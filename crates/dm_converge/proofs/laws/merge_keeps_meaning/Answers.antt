use Rattle.dm_converge.proofs.Patches as proof
use Rattle.dm_converge.proofs.laws.merge_keeps_meaning.Goals as goal

pub returns : goal.returns
returns g c = proof.merge_keeps_meaning _

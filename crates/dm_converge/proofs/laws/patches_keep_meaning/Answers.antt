use Rattle.dm_converge.proofs.Patches as proof
use Rattle.dm_converge.proofs.laws.patches_keep_meaning.Goals as goal

pub returns : goal.returns
returns g c = proof.patches_keep_meaning _

use Rattle.dm_converge.proofs.Networks as proof
use Rattle.dm_converge.proofs.laws.pools_converge.Goals as goal

pub returns : goal.returns
returns c = proof.pools_converge

use Rattle.dm_converge.proofs.Networks as proof
use Rattle.dm_converge.proofs.laws.networks_converge.Goals as goal

pub returns : goal.returns
returns c = proof.networks_converge

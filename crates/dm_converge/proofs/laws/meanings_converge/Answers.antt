use Rattle.dm_converge.proofs.Converging as proof
use Rattle.dm_converge.proofs.laws.meanings_converge.Goals as goal

pub returns : goal.returns
returns g c = proof.meanings_converge _

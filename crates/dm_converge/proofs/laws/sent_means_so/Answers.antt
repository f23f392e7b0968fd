use Rattle.dm_converge.proofs.Sent as proof
use Rattle.dm_converge.proofs.laws.sent_means_so.Goals as goal

pub returns : goal.returns
returns g c = proof.sent_means_so _

use Rattle.dm_converge.proofs.Accepting as proof
use Rattle.dm_converge.proofs.laws.accepted_texts_converge.Goals as goal

pub returns : goal.returns
returns c = proof.accepted_texts_converge

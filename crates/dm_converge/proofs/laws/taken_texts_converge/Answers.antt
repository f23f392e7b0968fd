use Rattle.dm_converge.proofs.Networks as proof
use Rattle.dm_converge.proofs.laws.taken_texts_converge.Goals as goal

pub returns : goal.returns
returns c = proof.taken_texts_converge

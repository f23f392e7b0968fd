use Rattle.dm_facts.proofs.LawProofs as proof
use Rattle.dm_facts.proofs.laws.inverses_step_back.Goals as goal

pub returns : goal.returns
returns g c = proof.inverses_step_back _

use Rattle.dm_facts.proofs.LawProofs as proof
use Rattle.dm_facts.proofs.laws.steps_apply.Goals as goal

pub returns : goal.returns
returns g c = proof.steps_apply _

use Rattle.dm_facts.proofs.LawProofs as proof
use Rattle.dm_facts.proofs.laws.effects_stay.Goals as goal

pub returns : goal.returns
returns g c = proof.effects_stay _

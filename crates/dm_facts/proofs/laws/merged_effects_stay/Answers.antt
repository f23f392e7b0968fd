use Rattle.dm_facts.proofs.LawProofs as proof
use Rattle.dm_facts.proofs.laws.merged_effects_stay.Goals as goal

pub returns : goal.returns
returns g c = proof.merged_effects_stay _

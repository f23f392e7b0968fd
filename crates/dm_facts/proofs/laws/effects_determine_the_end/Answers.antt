use Rattle.dm_facts.proofs.LawProofs as proof
use Rattle.dm_facts.proofs.laws.effects_determine_the_end.Goals as goal

pub returns : goal.returns
returns g c = proof.effects_determine_the_end _

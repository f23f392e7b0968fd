use Rattle.dm_facts.proofs.LawProofs as proof
use Rattle.dm_facts.proofs.laws.what_leads_steps.Goals as goal

pub returns : goal.returns
returns g c = proof.what_leads_steps _

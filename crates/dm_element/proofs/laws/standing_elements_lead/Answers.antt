use Rattle.dm_element.proofs.StandingLawLemmas.{elements_lead}
use Rattle.dm_element.proofs.laws.standing_elements_lead.Goals as goal

pub returns : goal.returns
returns c = elements_lead

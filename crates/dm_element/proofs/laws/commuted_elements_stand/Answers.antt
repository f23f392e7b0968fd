use Rattle.dm_element.proofs.StandingLawLemmas.{commuted_stand}
use Rattle.dm_element.proofs.laws.commuted_elements_stand.Goals as goal

pub returns : goal.returns
returns c = commuted_stand

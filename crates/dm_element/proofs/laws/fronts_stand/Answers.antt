use Rattle.dm_element.proofs.StandingLawLemmas.{front_stands}
use Rattle.dm_element.proofs.laws.fronts_stand.Goals as goal

pub returns : goal.returns
returns c = front_stands

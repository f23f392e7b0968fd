use Rattle.dm_element.proofs.StandingLawLemmas.{inverses_do}
use Rattle.dm_element.proofs.laws.inverses_stand.Goals as goal

pub returns : goal.returns
returns c = inverses_do

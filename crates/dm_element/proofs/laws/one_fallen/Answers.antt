use Rattle.dm_element.proofs.StandingLawLemmas.{one_answer}
use Rattle.dm_element.proofs.laws.one_fallen.Goals as goal

pub returns : goal.returns
returns c = one_answer

use Rattle.dm_element.proofs.SettledLawLemmas.{one_first}
use Rattle.dm_element.proofs.laws.one_first_unsettled.Goals as goal

pub returns : goal.returns
returns c = one_first

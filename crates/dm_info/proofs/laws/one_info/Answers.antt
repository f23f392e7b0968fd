use Rattle.dm_info.proofs.SpellingLemmas.{one_info}
use Rattle.dm_info.proofs.laws.one_info.Goals as goal

pub returns : goal.returns
returns c = one_info

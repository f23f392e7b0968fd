use Rattle.dm_info.proofs.SpellingLemmas.{not_both}
use Rattle.dm_info.proofs.laws.not_both.Goals as goal

pub returns : goal.returns
returns c = not_both

use Rattle.dm_tokens.proofs.TurnLemmas.{turnings_pass}
use Rattle.dm_tokens.proofs.laws.turnings_pass_each_other.Goals as goal

pub returns : goal.returns
returns c = turnings_pass

use Rattle.dm_tokens.proofs.ExchangeLemmas.{exchanges_pass}
use Rattle.dm_tokens.proofs.laws.exchanges_pass_each_other.Goals as goal

pub returns : goal.returns
returns c = exchanges_pass

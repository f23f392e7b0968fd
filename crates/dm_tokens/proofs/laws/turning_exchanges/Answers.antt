use Rattle.dm_tokens.proofs.ExchangeLemmas.{turned_exchanged}
use Rattle.dm_tokens.proofs.laws.turning_exchanges.Goals as goal

pub returns : goal.returns
returns c = turned_exchanged

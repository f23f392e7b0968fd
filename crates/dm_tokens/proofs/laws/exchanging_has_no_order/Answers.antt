use Rattle.dm_tokens.proofs.ExchangeLemmas.{exchanged_round}
use Rattle.dm_tokens.proofs.laws.exchanging_has_no_order.Goals as goal

pub returns : goal.returns
returns c = exchanged_round

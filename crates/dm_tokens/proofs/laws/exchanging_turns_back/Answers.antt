use Rattle.dm_tokens.proofs.ExchangeLemmas.{exchanged_twice}
use Rattle.dm_tokens.proofs.laws.exchanging_turns_back.Goals as goal

pub returns : goal.returns
returns c = exchanged_twice

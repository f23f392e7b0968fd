use Rattle.dm_tokens.proofs.TurnLemmas.{only_itself}
use Rattle.dm_tokens.proofs.laws.same_token_changes_nothing.Goals as goal

pub returns : goal.returns
returns c = only_itself

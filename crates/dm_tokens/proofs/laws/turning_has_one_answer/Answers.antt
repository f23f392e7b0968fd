use Rattle.dm_tokens.proofs.TurnLemmas.{one_answer}
use Rattle.dm_tokens.proofs.laws.turning_has_one_answer.Goals as goal

pub returns : goal.returns
returns c = one_answer

use Rattle.dm_tokens.proofs.TurnLemmas.{lines_one_answer}
use Rattle.dm_tokens.proofs.laws.turning_lines_has_one_answer.Goals as goal

pub returns : goal.returns
returns c = lines_one_answer

use Rattle.dm_tokens.proofs.TurnLemmas.{lines_turn_back}
use Rattle.dm_tokens.proofs.laws.turning_lines_turns_back.Goals as goal

pub returns : goal.returns
returns c = λ set old new ls ls' o n. (lines_turn_back set old new ls ls' o n, lines_turn_back set new old ls' ls n o)

use Rattle.dm_tokens.proofs.TurnLemmas.{turns_back}
use Rattle.dm_tokens.proofs.laws.turning_turns_back.Goals as goal

pub returns : goal.returns
returns c = λ set old new x y o n. (turns_back set old new x y o n, turns_back set new old y x n o)

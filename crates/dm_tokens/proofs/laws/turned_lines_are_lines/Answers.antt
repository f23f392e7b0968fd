use Rattle.dm_tokens.proofs.TurnLemmas.{lines_stay}
use Rattle.dm_tokens.proofs.laws.turned_lines_are_lines.Goals as goal

pub returns : goal.returns
returns c = lines_stay

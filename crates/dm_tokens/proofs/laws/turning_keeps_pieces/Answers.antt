use Rattle.dm_tokens.proofs.TurnLemmas.{kept_pieces}
use Rattle.dm_tokens.proofs.laws.turning_keeps_pieces.Goals as goal

pub returns : goal.returns
returns c = kept_pieces

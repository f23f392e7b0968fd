use Rattle.dm_tokens.proofs.PieceLemmas.{has_piece}
use Rattle.dm_tokens.proofs.TurnLemmas.{no_turn}
use Rattle.dm_tokens.proofs.laws.text_with_new_turns_to_nothing.Goals as goal

pub returns : goal.returns
returns c = λ set old new x y ne there h. no_turn set old new x y ne (has_piece set x new there) h

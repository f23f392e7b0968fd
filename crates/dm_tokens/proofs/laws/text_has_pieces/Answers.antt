use Rattle.dm_tokens.specs.Walks.{pieces_of}
use Rattle.dm_tokens.proofs.PieceLemmas.{are_pieces}
use Rattle.dm_tokens.proofs.laws.text_has_pieces.Goals as goal

pub returns : goal.returns
returns c = λ set text. (pieces_of set text, are_pieces set text)

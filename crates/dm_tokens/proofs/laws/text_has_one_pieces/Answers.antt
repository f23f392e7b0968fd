use Rattle.std.proofs.Common.{sym, ◌∙◌}
use Rattle.dm_tokens.proofs.PieceLemmas.{are_computed}
use Rattle.dm_tokens.proofs.laws.text_has_one_pieces.Goals as goal

pub returns : goal.returns
returns c = λ set text ps qs h k. sym (are_computed set text ps h) ∙ are_computed set text qs k

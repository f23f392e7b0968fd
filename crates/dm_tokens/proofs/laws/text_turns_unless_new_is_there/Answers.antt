use Rattle.std.proofs.lemmas.Bool.{false_from_ne_true}
use Rattle.dm_tokens.specs.Walks.{has, turned}
use Rattle.dm_tokens.proofs.PieceLemmas.{piece_from}
use Rattle.dm_tokens.proofs.TurnLemmas.{turns_to}
use Rattle.dm_tokens.proofs.laws.text_turns_unless_new_is_there.Goals as goal

pub returns : goal.returns
returns c = λ set old new x free. (turned set old new x, turns_to set old new x (λ ne. false_from_ne_true (has set x new) (λ e. free ne (piece_from set x new e))))

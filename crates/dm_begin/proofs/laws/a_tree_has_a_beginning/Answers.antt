use Rattle.dm_begin.proofs.BeginningLemmas.{beginning_is_taken, spread_is_beginning}
use Rattle.dm_begin.proofs.laws.a_tree_has_a_beginning.Goals as goal

pub returns : goal.returns
returns c = record { beginning = spread_is_beginning; taken = beginning_is_taken }

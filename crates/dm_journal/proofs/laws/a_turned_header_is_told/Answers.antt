use Rattle.dm_journal.proofs.Turned.{turned_told, none_turns}
use Rattle.dm_journal.proofs.laws.a_turned_header_is_told.Goals as goal

pub returns-clause-fields : goal.returns-clause-fields
returns-clause-fields c = turned_told

pub returns-clause-none : goal.returns-clause-none
returns-clause-none c = none_turns

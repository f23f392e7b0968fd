use Rattle.dm_journal.proofs.Known.{one_unknown, none_in_known}
use Rattle.dm_journal.proofs.laws.one_field_is_named.Goals as goal

pub returns-clause-one : goal.returns-clause-one
returns-clause-one c = one_unknown

pub returns-clause-none : goal.returns-clause-none
returns-clause-none c = none_in_known

use Rattle.dm_journal.proofs.Units.{latchs_begin, units_filled}
use Rattle.dm_journal.proofs.laws.parts_begin_units.Goals as goal

pub returns-clause-latches : goal.returns-clause-latches
returns-clause-latches c = latchs_begin

pub returns-clause-filled : goal.returns-clause-filled
returns-clause-filled c = units_filled

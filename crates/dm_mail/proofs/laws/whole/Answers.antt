use Rattle.dm_mail.proofs.Totals.{all_taken, closed_is_all}
use Rattle.dm_mail.proofs.laws.whole.Goals as goal

pub returns-clause-counted : goal.returns-clause-counted
returns-clause-counted c = all_taken

pub returns-clause-closed : goal.returns-clause-closed
returns-clause-closed c = closed_is_all

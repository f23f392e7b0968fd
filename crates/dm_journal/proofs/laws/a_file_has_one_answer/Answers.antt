use Rattle.dm_journal.proofs.OneAnswer.{one_list, one_file_format, no_fault, one_fault}
use Rattle.dm_journal.proofs.laws.a_file_has_one_answer.Goals as goal

pub returns-clause-texts : goal.returns-clause-texts
returns-clause-texts c = one_list

pub returns-clause-format : goal.returns-clause-format
returns-clause-format c = one_file_format

pub returns-clause-texts_or_fault : goal.returns-clause-texts_or_fault
returns-clause-texts_or_fault c = no_fault

pub returns-clause-fault : goal.returns-clause-fault
returns-clause-fault c = one_fault

use Rattle.dm_store.proofs.FoldLemmas.{keeps_one, none_bad}
use Rattle.dm_store.proofs.laws.a_file_keeps_one_repository.Goals as goal

pub returns-clause-one : goal.returns-clause-one
returns-clause-one c = keeps_one c.a_file_has_one_answer.ensures.texts c.a_file_has_one_answer.ensures.format

pub returns-clause-no_bad_entry : goal.returns-clause-no_bad_entry
returns-clause-no_bad_entry c = none_bad c.a_file_has_one_answer.ensures.texts c.a_file_has_one_answer.ensures.format

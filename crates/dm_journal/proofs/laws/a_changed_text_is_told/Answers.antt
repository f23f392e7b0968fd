use Rattle.dm_journal.proofs.Told.{words_told, links_told}
use Rattle.dm_journal.proofs.laws.a_changed_text_is_told.Goals as goal

pub returns-clause-words : goal.returns-clause-words
returns-clause-words c = words_told

pub returns-clause-links : goal.returns-clause-links
returns-clause-links c = links_told

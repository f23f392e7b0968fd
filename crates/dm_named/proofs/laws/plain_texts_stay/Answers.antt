use Rattle.dm_named.proofs.PlainItems.{plain_texts, plain_canonical}
use Rattle.dm_named.proofs.laws.plain_texts_stay.Goals as goal

pub returns-clause-texts : goal.returns-clause-texts
returns-clause-texts c = plain_texts

pub returns-clause-canonical : goal.returns-clause-canonical
returns-clause-canonical c = plain_canonical

use Rattle.dm_deliver.proofs.LawLemmas.{fold_of}
use Rattle.dm_deliver.proofs.laws.answers_fold.Goals as goal

pub returns : goal.returns
returns c = fold_of

use Rattle.dm_repo.proofs.FoldLemmas.{fold_is_one}
use Rattle.dm_repo.proofs.laws.fold.Goals as goal

pub returns : goal.returns
returns c = record { one = fold_is_one }

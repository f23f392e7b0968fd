use Rattle.dm_repo.proofs.FoldLemmas.{split_folds, split_is_one, split_stops_once}
use Rattle.dm_repo.proofs.laws.split.Goals as goal

pub returns : goal.returns
returns c = record { folds = split_folds; one = split_is_one; stops_once = split_stops_once }

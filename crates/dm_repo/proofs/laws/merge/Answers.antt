use Rattle.dm_repo.proofs.FoldLemmas.{merge_applies, merge_is_one, merge_stops_once}
use Rattle.dm_repo.proofs.Keeps.{merge_is_repo}
use Rattle.dm_repo.proofs.SiftLemmas.{policies_agree, each_merged_or_skipped}
use Rattle.dm_repo.proofs.laws.merge.Goals as goal

pub returns : goal.returns
returns c = record { applies = merge_applies; one = merge_is_one; stops_once = merge_stops_once; is_repo = merge_is_repo; policies_agree = policies_agree; each = each_merged_or_skipped }

use Rattle.dm_named.proofs.MergedRoundTrip.{merged_back}
use Rattle.dm_named.proofs.laws.merged_round_trip.Goals as goal

pub returns : goal.returns
returns c = merged_back

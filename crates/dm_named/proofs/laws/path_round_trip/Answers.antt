use Rattle.dm_named.proofs.PatchRoundTrip.{path_back}
use Rattle.dm_named.proofs.laws.path_round_trip.Goals as goal

pub returns : goal.returns
returns c = path_back

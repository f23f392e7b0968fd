use Rattle.dm_named.proofs.ConflictorRoundTrip.{conflictor_back}
use Rattle.dm_named.proofs.laws.conflictor_round_trip.Goals as goal

pub returns : goal.returns
returns c = conflictor_back

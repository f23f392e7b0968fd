use Rattle.dm_bundle.proofs.RoundTrips.{round_trip}
use Rattle.dm_bundle.proofs.laws.round_trip.Goals as goal

pub returns : goal.returns
returns c = round_trip

use Rattle.dm_named.proofs.PatchRoundTrip.{prim_back}
use Rattle.dm_named.proofs.laws.prim_round_trip.Goals as goal

pub returns : goal.returns
returns c = prim_back

use Rattle.dm_named.proofs.PatchRoundTrip.{patch_back}
use Rattle.dm_named.proofs.laws.patch_round_trip.Goals as goal

pub returns : goal.returns
returns c = patch_back

use Rattle.dm_info.proofs.SpellingLemmas.{canonical_stands}
use Rattle.dm_info.proofs.laws.round_trip.Goals as goal

pub returns : goal.returns
returns c = canonical_stands

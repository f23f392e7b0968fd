use Rattle.dm_hash.proofs.TrailerLemmas.{one_trailer}
use Rattle.dm_hash.proofs.laws.one_trailer.Goals as goal

pub returns : goal.returns
returns c = one_trailer

use Rattle.dm_hash.proofs.TrailerLemmas.{written_right, written_ends}
use Rattle.dm_hash.proofs.laws.written_hash_is_right.Goals as goal

pub returns : goal.returns
returns c = λ kinds b valid can. (written_ends kinds b valid can, written_right b.patches)

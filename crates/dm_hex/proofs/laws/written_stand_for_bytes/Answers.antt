use Rattle.dm_hex.proofs.StarLemmas.{lines_stand}
use Rattle.dm_hex.proofs.laws.written_stand_for_bytes.Goals as goal

pub returns : goal.returns
returns c = lines_stand

use Rattle.dm_hex.proofs.StarLemmas.{lines_plain}
use Rattle.dm_hex.proofs.laws.written_are_plain.Goals as goal

pub returns : goal.returns
returns c = lines_plain

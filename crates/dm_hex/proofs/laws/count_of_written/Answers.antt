use Rattle.dm_hex.proofs.StarLemmas.{lines_count}
use Rattle.dm_hex.proofs.laws.count_of_written.Goals as goal

pub returns : goal.returns
returns c = lines_count

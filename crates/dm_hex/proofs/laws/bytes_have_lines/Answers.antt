use Rattle.dm_hex.proofs.ContentLemmas.{have_lines}
use Rattle.dm_hex.proofs.laws.bytes_have_lines.Goals as goal

pub returns : goal.returns
returns c = have_lines

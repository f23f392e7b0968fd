use Rattle.std.proofs.Common.{arith}
use Rattle.dm_hex.proofs.ContentLemmas.{content_length}
use Rattle.dm_hex.proofs.writing.len_of_content.Goals as goal

pub returns : goal.returns
returns g c = omega (arith, content_length c.args.lines.now)

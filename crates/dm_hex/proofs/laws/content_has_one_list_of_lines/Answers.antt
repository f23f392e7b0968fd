use Rattle.dm_hex.proofs.ContentLemmas.{one_list}
use Rattle.dm_hex.proofs.laws.content_has_one_list_of_lines.Goals as goal

pub returns : goal.returns
returns c = one_list

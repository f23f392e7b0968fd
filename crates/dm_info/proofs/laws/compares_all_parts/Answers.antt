use Rattle.dm_info.proofs.Same.{compares_all}
use Rattle.dm_info.proofs.laws.compares_all_parts.Goals as goal

pub returns : goal.returns
returns c = compares_all

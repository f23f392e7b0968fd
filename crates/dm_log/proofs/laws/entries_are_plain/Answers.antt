use Rattle.dm_log.proofs.PlainLemmas.{entries_are_plain}
use Rattle.dm_log.proofs.laws.entries_are_plain.Goals as goal

pub returns : goal.returns
returns c = entries_are_plain

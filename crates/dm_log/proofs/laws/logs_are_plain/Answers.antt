use Rattle.dm_log.proofs.PlainLemmas.{logs_are_plain}
use Rattle.dm_log.proofs.laws.logs_are_plain.Goals as goal

pub returns : goal.returns
returns c = logs_are_plain

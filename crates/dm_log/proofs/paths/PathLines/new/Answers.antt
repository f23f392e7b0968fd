use Rattle.dm_log.proofs.TouchedLemmas.{collects_none}
use Rattle.dm_log.proofs.paths.PathLines.new.Goals as goal

pub returns : goal.returns
returns g c = collects_none _ c.new.ensures c.new-2.ensures.items

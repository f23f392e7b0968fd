use Rattle.dm_named.proofs.BodyLemmas.{info_forward}
use Rattle.dm_named.proofs.text.info_at.Goals as goal

pub returns-in-Ok-clause-forward : goal.returns-in-Ok-clause-forward
returns-in-Ok-clause-forward g c = info_forward c.args.text.now c.args.at c.in-Ok.next c.in-Ok.info c.in-Ok.ensures.found.stands

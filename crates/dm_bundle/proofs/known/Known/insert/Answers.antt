use Rattle.dm_bundle.proofs.KnownLemmas.{not_known, noted}
use Rattle.dm_bundle.proofs.known.Known.insert.Goals as goal

pub returns-clause-is_new : goal.returns-clause-is_new
returns-clause-is_new g c = rw (← c.self.view_is) (not_known c.self.inside.infos c.args.info c.in_ok-is_new.is_new c.in_ok-is_new.ensures.added)

pub returns-clause-noted : goal.returns-clause-noted
returns-clause-noted g c = rw (← c.self.view_is) (noted c.self.inside.infos c.insert.new.self c.args.info c.in_ok-is_new.ensures.updates.0)

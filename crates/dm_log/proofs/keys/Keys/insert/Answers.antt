use Rattle.dm_log.proofs.KeysLemmas.{not_known, noted}
use Rattle.dm_log.proofs.keys.Keys.insert.Goals as goal

pub returns-clause-is_new : goal.returns-clause-is_new
returns-clause-is_new g c = rw (← c.self.view_is) (not_known c.self.inside.set c.args.text.items c.in_ok-is_new.is_new (rw c.new.ensures at c.in_ok-is_new.ensures.added))

pub returns-clause-noted : goal.returns-clause-noted
returns-clause-noted g c = rw (← c.self.view_is) (noted c.self.inside.set c.insert.new.self c.args.text.items (rw c.new.ensures at c.in_ok-is_new.ensures.updates.0))

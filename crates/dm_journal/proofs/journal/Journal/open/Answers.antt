use Rattle.dm_journal.proofs.Crash.{has_texts}
use Rattle.dm_journal.proofs.journal.Journal.open.Goals as goal

pub returns-in-Ok-clause-ready : goal.returns-in-Ok-clause-ready
returns-in-Ok-clause-ready g c =
    let d = g.D.Device in
    has_texts d.seen d.may_leave d.file_may_leave _ (d.seen c.args.device) _ c.in-Ok.ensures.texts c.in-Ok.ensures.untouched.same c.in-Ok.ensures.untouched.durable

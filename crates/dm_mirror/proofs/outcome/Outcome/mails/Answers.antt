use Rattle.std.proofs.Common.{sym, ap, ◌∙◌}
use Rattle.dm_mirror.specs.Runs.{mirror_mails}
use Rattle.dm_mirror.proofs.outcome.Outcome.mails.Goals as goal

pub returns-clause-mirror : goal.returns-clause-mirror
returns-clause-mirror c = (c.mirror.result.now, c.mirror.ensures, c.as_slice.ensures.value)

pub returns-clause-mails : goal.returns-clause-mails
returns-clause-mails c = c.as_slice.ensures.value ∙ sym (ap mirror_mails c.mirror.ensures)

use Rattle.dm_mirror.proofs.outcome.Outcome.closed.Goals as goal

pub returns : goal.returns
returns c = (c.mirror.result.now, c.mirror.ensures, c.has_mark.ensures)

use Rattle.std.proofs.Common.{refl}
use Rattle.dm_mirror.proofs.outcome.Outcome.repo.Goals as goal

pub returns : goal.returns
returns c = (c.mirror.result.now, c.mirror.ensures, refl)

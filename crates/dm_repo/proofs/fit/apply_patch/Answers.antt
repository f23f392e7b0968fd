use Rattle.dm_repo.proofs.Applying.{refused_stops}
use Rattle.dm_repo.proofs.fit.apply_patch.Goals as goal

pub returns-in-Err : goal.returns-in-Err
returns-in-Err g c = λ s e. refused_stops _ c.in-Err.fault c.refused.result (c.in-Err.ensures s e) c.refused.ensures

pub returns-in-Ok : goal.returns-in-Ok
returns-in-Ok g c = c.in-Ok.ensures

use Rattle.dm_repo.proofs.Tries.{touched_among}
use Rattle.dm_repo.proofs.trial.names_of.Goals as goal

pub returns : goal.returns
returns g c = rw c.into_paths.ensures (touched_among c.args.patch.now c.in_ok-touched.touched (rw c.prims.ensures at c.in_ok-touched.ensures))

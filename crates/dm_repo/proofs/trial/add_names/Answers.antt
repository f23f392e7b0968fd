use Rattle.dm_repo.proofs.Tries.{adds_one}
use Rattle.dm_repo.proofs.trial.add_names.Goals as goal

pub returns : goal.returns
returns g c = rw c.in_ok-append.ensures.items (adds_one c.args.patch.now c.args.paths.now.items c.in_ok-more.more.items c.in_ok-more.ensures)

use Rattle.dm_repo.proofs.repo.Repo.find.Goals as goal

pub returns : goal.returns
returns g c = rw c.in_ok-name.ensures at c.position.ensures

use Rattle.dm_repo.proofs.repo.Repo.tree.Goals as goal

pub returns : goal.returns
returns g c = rw (← c.self.view_is) c.self.invariant.0.makes

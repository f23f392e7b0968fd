use Rattle.dm_repo.proofs.repo.Repo.position.Goals as goal

pub returns : goal.returns
returns g c = rw (← c.self.view_is) (rw c.self.invariant.1.0 at c.place_of.ensures)

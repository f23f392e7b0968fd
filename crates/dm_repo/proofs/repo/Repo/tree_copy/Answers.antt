use Rattle.dm_repo.proofs.repo.Repo.tree_copy.Goals as goal

pub returns : goal.returns
returns g c = rw c.in_ok-copy.ensures c.tree.ensures

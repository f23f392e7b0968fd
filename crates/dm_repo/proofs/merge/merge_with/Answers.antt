use Rattle.dm_repo.proofs.merge.merge_with.Goals as goal

pub returns-in-Refuse : goal.returns-in-Refuse
returns-in-Refuse g c = rw c.in-Refuse.is c.merge_whole.ensures

pub returns-in-Skip : goal.returns-in-Skip
returns-in-Skip g c = rw c.in-Skip.is c.merge_some.ensures

use Rattle.dm_named.proofs.passing.commute_touching.Goals as goal

pub returns-clause-prims : goal.returns-clause-prims
returns-clause-prims g c = rw (← c.x.view_is, ← c.y.view_is) c.commute_prims-commutes.ensures.prims

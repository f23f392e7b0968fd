use Rattle.dm_named.proofs.commuting.commute_prims.Goals as goal

pub returns-in-None-clause-prims : goal.returns-in-None-clause-prims
returns-in-None-clause-prims g c = rw (c.in-None.is, c.replace_prims-xs.ensures.taken, c.replace_prims-ys.ensures.taken) at c.in_ok-commute_lists_owned.ensures.answer

pub returns-in-Some-clause-prims : goal.returns-in-Some-clause-prims
returns-in-Some-clause-prims g c =
    rw (c.replace_prims.ensures.new, c.replace_prims-in-Some.ensures.new)
    (rw (c.in-Some.is, c.replace_prims-xs.ensures.taken, c.replace_prims-ys.ensures.taken) at c.in_ok-commute_lists_owned.ensures.answer)

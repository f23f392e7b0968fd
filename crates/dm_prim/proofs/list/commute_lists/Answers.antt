use Rattle.dm_prim.proofs.list.commute_lists.Goals as goal

pub returns-clause-answer : goal.returns-clause-answer
returns-clause-answer g c = rw (c.in_ok-first.ensures, c.in_ok-second.ensures) at c.commute_lists_owned.ensures.answer

pub returns-clause-laws : goal.returns-clause-laws
returns-clause-laws g c = rw (c.in_ok-first.ensures, c.in_ok-second.ensures) at c.commute_lists_owned.ensures.laws

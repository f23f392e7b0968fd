use Rattle.dm_element.specs.Values.{element_of}
use Rattle.dm_element.proofs.ConflictLemmas.{laws_of}
use Rattle.dm_element.proofs.pair.commute_elements_owned.Goals as goal

pub returns-in-Ok-into_plain-clause-laws : goal.returns-in-Ok-into_plain-clause-laws
returns-in-Ok-into_plain-clause-laws g c = laws_of (element_of c.args.e) (element_of c.args.f) c.commute_plains.result (rw (c.in-Ok.ensures, c.in-Ok-into_plain.ensures) c.commute_plains.ensures)

pub returns-in-Err-into_plain-clause-answer : goal.returns-in-Err-into_plain-clause-answer
returns-in-Err-into_plain-clause-answer g c = rw (c.in-Ok.ensures, c.in-Err-into_plain.ensures) c.commute_plain_conflict.ensures

pub returns-in-Err-into_plain-clause-laws : goal.returns-in-Err-into_plain-clause-laws
returns-in-Err-into_plain-clause-laws g c = laws_of (element_of c.args.e) (element_of c.args.f) c.commute_plain_conflict.result (rw (c.in-Ok.ensures, c.in-Err-into_plain.ensures) c.commute_plain_conflict.ensures)

pub returns-in-Ok-into_plain-2-clause-laws : goal.returns-in-Ok-into_plain-2-clause-laws
returns-in-Ok-into_plain-2-clause-laws g c = laws_of (element_of c.args.e) (element_of c.args.f) c.commute_conflict_plain.result (rw (c.in-Err.ensures, c.in-Ok-into_plain-2.ensures) c.commute_conflict_plain.ensures)

pub returns-in-Err-into_plain-2-clause-answer : goal.returns-in-Err-into_plain-2-clause-answer
returns-in-Err-into_plain-2-clause-answer g c = rw (c.in-Err.ensures, c.in-Err-into_plain-2.ensures) c.commute_both_conflicts.ensures

pub returns-in-Err-into_plain-2-clause-laws : goal.returns-in-Err-into_plain-2-clause-laws
returns-in-Err-into_plain-2-clause-laws g c = laws_of (element_of c.args.e) (element_of c.args.f) c.commute_both_conflicts.result (rw (c.in-Err.ensures, c.in-Err-into_plain-2.ensures) c.commute_both_conflicts.ensures)

use Rattle.dm_element.proofs.ConflictLemmas.{no_conflicts}
use Rattle.dm_element.proofs.pair.commute_both_conflicts.Goals as goal

pub returns-in_default : goal.returns-in_default
returns-in_default g c = no_conflicts c.args.c c.args.d (rw c.in_default.is at c.in_ok-d.ensures)

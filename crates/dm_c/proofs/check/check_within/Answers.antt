use Rattle.dm_c.proofs.CheckLemmas.{given_checks}
use Rattle.dm_c.proofs.check.check_within.Goals as goal

pub returns-in-Ok : goal.returns-in-Ok
returns-in-Ok c = given_checks _ _ _ _ _ _ _ _ _ _ c.in-Ok.ensures.ok c.give_checked.ensures

use Rattle.dm_folder.proofs.EventLemmas.{later_one}
use Rattle.dm_folder.proofs.system.stamp_of.Goals as goal

pub returns-then-eq-clause-later : goal.returns-then-eq-clause-later
returns-then-eq-clause-later c = later_one _ _ _ c.stood.ensures

pub returns-in-Dir-clause-later : goal.returns-in-Dir-clause-later
returns-in-Dir-clause-later c = later_one _ _ _ c.stood.ensures

pub returns-in_default : goal.returns-in_default
returns-in_default c = record { ok = tt; later = later_one _ _ _ c.stood.ensures }

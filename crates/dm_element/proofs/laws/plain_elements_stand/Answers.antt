use Rattle.dm_element.proofs.StandingLawLemmas.{plains_stand, plains_fall}
use Rattle.dm_element.proofs.laws.plain_elements_stand.Goals as goal

pub returns-clause-stand : goal.returns-clause-stand
returns-clause-stand c = plains_stand

pub returns-clause-fall : goal.returns-clause-fall
returns-clause-fall c = plains_fall

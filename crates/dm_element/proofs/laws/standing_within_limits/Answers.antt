use Rattle.dm_element.proofs.StandingLawLemmas.{stands_only}
use Rattle.dm_element.proofs.laws.standing_within_limits.Goals as goal

pub returns : goal.returns
returns c = stands_only

use Rattle.dm_c.proofs.NumberLemmas.{limits_apart, policies_apart}
use Rattle.dm_c.proofs.laws.numbers_tell_apart.Goals as goal

pub returns-clause-policies : goal.returns-clause-policies
returns-clause-policies c = policies_apart

pub returns-clause-limits : goal.returns-clause-limits
returns-clause-limits c = limits_apart

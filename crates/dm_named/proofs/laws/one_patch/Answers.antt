use Rattle.dm_named.specs.declared.limits.Kinds.TheVariants as these
use Rattle.dm_named.proofs.OnePatch.{one_patch}
use Rattle.dm_named.proofs.laws.one_patch.Goals as goal

pub returns-clause-six : goal.returns-clause-six
returns-clause-six c = one_patch these.Six

pub returns-clause-of_kinds : goal.returns-clause-of_kinds
returns-clause-of_kinds c = one_patch

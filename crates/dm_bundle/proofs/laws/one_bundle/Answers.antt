use Rattle.dm_named.specs.declared.limits.Kinds.TheVariants as these
use Rattle.dm_bundle.proofs.OneBundle.{one_bundle}
use Rattle.dm_bundle.proofs.laws.one_bundle.Goals as goal

pub returns-clause-six : goal.returns-clause-six
returns-clause-six c = one_bundle these.Six

pub returns-clause-of_kinds : goal.returns-clause-of_kinds
returns-clause-of_kinds c = one_bundle

use Rattle.dm_bundle.proofs.OneBundle.{one_bundle}
use Rattle.dm_bundle.proofs.NoBundle.{fault_excludes_bundle}
use Rattle.dm_bundle.proofs.WithinLimits.{memory_alone}
use Rattle.dm_bundle.proofs.RoundTrips.{round_trip}
use Rattle.dm_bundle.proofs.reading.read_bundle_to.Goals as goal

pub returns-in-Ok-clause-only : goal.returns-in-Ok-clause-only
returns-in-Ok-clause-only g c = λ b t. one_bundle c.args.limits.kinds c.args.text.now c.in-Ok.bundle b c.in-Ok.ensures.ok.stands t

pub returns-in-Err-clause-none : goal.returns-in-Err-clause-none
returns-in-Err-clause-none g c = λ k. fault_excludes_bundle _ c.args.text.now c.in-Err.e.kind c.in-Err.e.at k (c.in-Err.ensures.err k.memory)

pub returns-in-Ok-clause-within_limits : goal.returns-in-Ok-clause-within_limits
returns-in-Ok-clause-within_limits g c = λ b t fits few. one_bundle c.args.limits.kinds c.args.text.now c.in-Ok.bundle b c.in-Ok.ensures.ok.stands t

pub returns-in-Err-clause-within_limits : goal.returns-in-Err-clause-within_limits
returns-in-Err-clause-within_limits g c = λ b t fits few. memory_alone c.args.limits c.args.text.now c.in-Err.e.kind c.in-Err.e.at c.in-Err.ensures.err b t fits few

pub returns-in-Ok-clause-canonical : goal.returns-in-Ok-clause-canonical
returns-in-Ok-clause-canonical g c = λ b valid can text fits few. one_bundle c.args.limits.kinds c.args.text.now c.in-Ok.bundle b c.in-Ok.ensures.ok.stands (rw text (round_trip c.args.limits.kinds b valid can))

pub returns-in-Err-clause-canonical : goal.returns-in-Err-clause-canonical
returns-in-Err-clause-canonical g c = λ b valid can text fits few. memory_alone c.args.limits c.args.text.now c.in-Err.e.kind c.in-Err.e.at c.in-Err.ensures.err b (rw text (round_trip c.args.limits.kinds b valid can)) fits few

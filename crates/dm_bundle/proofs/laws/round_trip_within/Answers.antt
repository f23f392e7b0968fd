use Rattle.dm_bundle.proofs.WithinLimits.{no_fault}
use Rattle.dm_bundle.proofs.RoundTrips.{round_trip}
use Rattle.dm_bundle.specs.Canonical.{bundle_text}
use Rattle.dm_bundle.proofs.laws.round_trip_within.Goals as goal

pub returns : goal.returns
returns c = λ limits b valid can few fits. (round_trip limits.kinds b valid can, λ kind at f. no_fault limits (bundle_text b) kind at f b (round_trip limits.kinds b valid can) fits few)

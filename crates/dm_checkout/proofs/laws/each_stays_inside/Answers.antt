use Rattle.dm_checkout.proofs.PlaceLemmas.{each_stays_inside}
use Rattle.dm_checkout.proofs.laws.each_stays_inside.Goals as goal

pub returns : goal.returns
returns c = each_stays_inside

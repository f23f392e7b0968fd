use Rattle.std.proofs.Common.{refl}
use Rattle.dm_repo.proofs.NearTops.{apart_from}
use Rattle.dm_repo.proofs.near.is_apart_from.Goals as goal

pub returns : goal.returns
returns g c = λ t. apart_from c.args.tops.now c.args.path.now c.requires c.place_among-at.result c.place_among-at.ensures.parts (c.if-is_under_at.ensures.other refl) (c.if-contains_before.ensures refl) c.place_among-at.ensures.within

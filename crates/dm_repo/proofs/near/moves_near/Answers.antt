use Rattle.std.proofs.Common.{refl}
use Rattle.dm_repo.proofs.Nearness.{move_near}
use Rattle.dm_repo.proofs.near.moves_near.Goals as goal

pub returns : goal.returns
returns g c = λ t. (
  move_near c.args.tops.now c.args.from.now c.args.to.now (c.if-not-is_under_one.ensures refl) (c.is_under_one-2.ensures t),
  record { left = λ u. absurd (cc (c.if-is_under.ensures.1 u)); right = λ u. absurd (cc (c.if-is_under-2.ensures.1 u)) },
)

use Rattle.dm_repo.proofs.Nearness.{aside_at_a_glance}
use Rattle.dm_repo.proofs.near.stands_aside_at_a_glance.Goals as goal

pub returns-then-is_aside : goal.returns-then-is_aside
returns-then-is_aside g c = λ t. aside_at_a_glance c.args.tops.now c.args.patch.now (c.if-is_aside.ensures t c.args.patch.now.prims c.args.tops.now c.requires.glance c.requires.sketch)

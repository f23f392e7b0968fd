use Rattle.dm_prim.specs.Prims.{prim_of}
use Rattle.dm_repo.proofs.Nearness.{work_aside}
use Rattle.dm_repo.proofs.near.is_aside.Goals as goal

pub returns-in-Some : goal.returns-in-Some
returns-in-Some g c = λ t. let w = c.in-Some.ensures in work_aside c.args.tops.now (prim_of c.args.prim.now) c.in-Some.path.now w.0 w.1 (c.is_apart_from.ensures t)

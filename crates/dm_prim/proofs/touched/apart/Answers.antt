use Rattle.dm_prim.proofs.TouchLemmas.{pass_unchanged}
use Rattle.dm_prim.proofs.touched.apart.Goals as goal

pub returns-clause-unchanged : goal.returns-clause-unchanged
returns-clause-unchanged g c = λ r. pass_unchanged c.args.first.now c.args.second.now (c.touch_nothing_in_common.ensures.0 r)

use Rattle.dm_begin.proofs.PrimLemmas.{most}
use Rattle.dm_begin.proofs.base.has_count.Goals as goal

pub returns : goal.returns
returns g c = most c.args.count c.prims.result.now c.args.patch.now.prims c.prims.ensures

use Rattle.dm_begin.proofs.PrimLemmas.{some_prims}
use Rattle.dm_begin.proofs.base.has_prims.Goals as goal

pub returns : goal.returns
returns g c = some_prims c.prims.result.now c.args.patch.now.prims c.is_empty.result c.prims.ensures c.is_empty.ensures

use Rattle.dm_prim.specs.Prims.{prims_of}
use Rattle.dm_prim.proofs.ListLemmas.{reversed}
use Rattle.dm_prim.proofs.inverse.invert_all.Goals as goal

pub returns : goal.returns
returns g c = reversed (prims_of c.args.prims.items) c.invert_each-inverses.result.items c.reverse.new.self.items c.reverse.ensures.items c.invert_each-inverses.ensures

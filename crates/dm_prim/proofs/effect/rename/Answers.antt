use Rattle.dm_prim.proofs.ApplyLemmas.{renames}
use Rattle.dm_prim.proofs.effect.rename.Goals as goal

pub returns-clause-change : goal.returns-clause-change
returns-clause-change g c = renames c.args.tree.now c.rename.new.self c.args.from.now c.args.to.now c.tree_is_lawful.ensures.lawful c.rename.result c.rename.ensures.fault c.rename.ensures.ok c.rename.ensures.err

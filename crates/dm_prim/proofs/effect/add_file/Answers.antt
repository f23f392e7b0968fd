use Rattle.dm_prim.proofs.ApplyLemmas.{adds_file}
use Rattle.dm_prim.proofs.effect.add_file.Goals as goal

pub returns-clause-change : goal.returns-clause-change
returns-clause-change g c = adds_file c.args.tree.now c.add_file.new.self c.args.path.now c.add_file.result c.add_file.ensures.fault c.add_file.ensures.ok c.add_file.ensures.err

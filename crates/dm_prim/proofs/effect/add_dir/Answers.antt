use Rattle.dm_prim.proofs.ApplyLemmas.{adds_dir}
use Rattle.dm_prim.proofs.effect.add_dir.Goals as goal

pub returns-clause-change : goal.returns-clause-change
returns-clause-change g c = adds_dir c.args.tree.now c.add_dir.new.self c.args.path.now c.add_dir.result c.add_dir.ensures.fault c.add_dir.ensures.ok c.add_dir.ensures.err

use Rattle.dm_prim.proofs.ApplyLemmas.{removes_dir}
use Rattle.dm_prim.proofs.effect.remove_dir.Goals as goal

pub returns-clause-change : goal.returns-clause-change
returns-clause-change g c = removes_dir c.args.tree.now c.remove_dir.new.self c.args.path.now c.remove_dir.result c.tree_is_lawful.ensures.lawful c.remove_dir.ensures.fault c.remove_dir.ensures.ok c.remove_dir.ensures.err

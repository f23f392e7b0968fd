use Rattle.dm_prim.proofs.ApplyLemmas.{removes_file}
use Rattle.dm_prim.proofs.effect.remove_file.Goals as goal

pub returns-clause-change : goal.returns-clause-change
returns-clause-change g c = removes_file c.args.tree.now c.remove_file.new.self c.args.path.now c.remove_file.result c.remove_file.ensures.fault c.remove_file.ensures.ok c.remove_file.ensures.err

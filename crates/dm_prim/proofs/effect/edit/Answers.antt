use Rattle.dm_prim.proofs.ApplyLemmas.{edits}
use Rattle.dm_prim.proofs.effect.edit.Goals as goal

pub returns-clause-change : goal.returns-clause-change
returns-clause-change g c = rw (← c.path.ensures.value, ← c.line.ensures.value, ← c.old.ensures, ← c.new_lines.ensures)
    (edits c.args.tree.now c.edit.new.self c.path.result.now c.line.result c.old.result.now c.new_lines.result.now c.edit.result c.edit.ensures.fault c.edit.ensures.ok c.edit.ensures.err)

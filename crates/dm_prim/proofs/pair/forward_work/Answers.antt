use Rattle.dm_tree.proofs.Fronts.{refuted}
use Rattle.dm_prim.specs.Prims.{prim_of}
use Rattle.dm_prim.proofs.TableLemmas.{work_stays}
use Rattle.dm_prim.proofs.pair.forward_work.Goals as goal

pub returns-then-not-is_under-clause-value : goal.returns-then-not-is_under-clause-value
returns-then-not-is_under-clause-value g c = (
  work_stays (prim_of c.args.work) c.args.from.now c.args.to.now c.requires c.path.result.now c.path.ensures (refuted c.if-not-is_under.ensures),
  c.tells_valid.ensures,
)

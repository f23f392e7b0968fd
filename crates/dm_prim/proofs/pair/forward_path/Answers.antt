use Rattle.dm_tree.proofs.Fronts.{refuted}
use Rattle.dm_prim.proofs.TableLemmas.{stays}
use Rattle.dm_prim.proofs.pair.forward_path.Goals as goal

pub returns-then-not-is_under : goal.returns-then-not-is_under
returns-then-not-is_under g c = stays c.args.from.now c.args.to.now c.args.path (refuted c.if-not-is_under.ensures)

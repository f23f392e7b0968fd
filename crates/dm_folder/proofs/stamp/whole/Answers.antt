use Rattle.dm_folder.proofs.StampLemmas.{same_stamp}
use Rattle.dm_folder.proofs.stamp.whole.Goals as goal

pub returns-clause-same : goal.returns-clause-same
returns-clause-same c = same_stamp c.args.before c.args.after c.ne.result c.ne.ensures c.if-ne.false

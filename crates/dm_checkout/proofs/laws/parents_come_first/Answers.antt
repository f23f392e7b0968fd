use Rattle.dm_checkout.proofs.OrderLemmas.{each_once, parents_first}
use Rattle.dm_checkout.proofs.laws.parents_come_first.Goals as goal

pub returns-clause-first : goal.returns-clause-first
returns-clause-first g c = parents_first c.args.tree.now c.tree_is_lawful.ensures.lawful

pub returns-clause-once : goal.returns-clause-once
returns-clause-once g c = each_once c.args.tree.now

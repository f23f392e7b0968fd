use Rattle.std.proofs.Common.{sym, subst}
use Rattle.dm_tree.specs.Children.{IsTree}
use Rattle.dm_tree.proofs.Trees.{fresh}
use Rattle.dm_tree.proofs.tree.Tree.new.Goals as goal

pub invariant_of-result : goal.invariant_of-result
invariant_of-result g c = subst IsTree (sym c.new.ensures.items) fresh

use Rattle.std.proofs.Common.{sym, ap, subst, ◌∙◌}
use Rattle.std.specs.FinMap.{get}
use Rattle.dm_tree.specs.Trees.{Deep, IsLawful}
use Rattle.dm_tree.proofs.Trees.{get-tree_of, not_deep}
use Rattle.dm_tree.proofs.tree.Tree.lawful.Goals as goal

pub returns-clause-lawful : goal.returns-clause-lawful
returns-clause-lawful g c = subst IsLawful (sym (get-tree_of c.self.inside.children.items) ∙ ap get c.self.view_is) c.self.invariant.lawful

pub returns-clause-shallow : goal.returns-clause-shallow
returns-clause-shallow g c = λ deep. not_deep c.self.inside.children.items c.self.invariant (subst Deep (sym (sym (get-tree_of c.self.inside.children.items) ∙ ap get c.self.view_is)) deep)

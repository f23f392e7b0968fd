use Rattle.dm_repo.proofs.Trees.{empty_repo}
use Rattle.dm_repo.proofs.Making.{new_makes}
use Rattle.dm_repo.proofs.repo.Repo.new.Goals as goal

pub invariant_of-result : goal.invariant_of-result
invariant_of-result g c = rw (c.new.ensures.items, c.new-2.ensures.items) (record { valid = empty_repo; makes = new_makes c.new-tree.result c.new-tree.ensures c.tree_is_lawful.ensures.lawful }, (c.no_names.ensures, tt))

use Rattle.dm_repo.proofs.repo.Repo.copy_of.Goals as goal

pub invariant_of-result : goal.invariant_of-result
invariant_of-result g c = (
  rw (c.in_ok-patches.ensures, c.patches.ensures.value) (record { valid = c.lawful.ensures; makes = c.in_ok-tree.ensures }),
  (rw c.deref-2.ensures.value at c.in_ok-names.ensures, rw c.deref.ensures.value at c.in_ok-glances.ensures),
)

use Rattle.std.proofs.Common.{refl}
use Rattle.dm_repo.proofs.nearby.is_nearby.Goals as goal

pub returns : goal.returns
returns g c = λ t. record {
  below = rw c.deref.ensures.value at c.prove_names.ensures;
  new_near = rw c.deref-2.ensures.value at (c.if-not-stand_near.ensures refl);
  told = c.requires.told;
  needed = rw c.deref-3.ensures.value at (c.are_needed_marked.ensures t);
}

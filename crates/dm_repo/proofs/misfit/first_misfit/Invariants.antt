use Rattle.std.proofs.Common.{◌≡◌, ◌++◌}
use Rattle.dm_prim.specs.InTurn.{InTurn}
use Rattle.dm_prim.specs.Primitives.{LawfulMap}
use Rattle.dm_repo.specs.Folds.{PatchLeadsShallowly}
use Rattle.dm_repo.specs.Squares.{patches}
use Rattle.dm_repo.specs.Repositories.{IsMapOf}
use Rattle.dm_repo.proofs.misfit.first_misfit.Given as goal

abbrev pub invariant-loop-place : goal.invariant-loop-place
invariant-loop-place g l = record {
  can_next : (goal.iterator-loop-place g).can_next l.place-iterator;
  is_finite : (goal.iterator-loop-place g).is_finite l.place-iterator;
  leads : (s : LawfulMap) → IsMapOf l.fn.tree s → (t : LawfulMap) × IsMapOf l.tree t × InTurn PatchLeadsShallowly (patches l.yielded) s t;
  whole : l.fn.new.items ≡ l.yielded ++ l.place-iterator.rest.items;
}

use Rattle.std.proofs.Common.{◌≡◌, [], map}
use Rattle.dm_repo.specs.Squares.{undone}
use Rattle.dm_repo.proofs.SkipLemmas.{Completes}
use Rattle.dm_repo.proofs.sifting.sift.Given as goal

abbrev pub invariant-loop-patch : goal.invariant-loop-patch
invariant-loop-patch g l = record {
  can_next : (goal.iterator-loop-patch g).can_next l.patch-iterator;
  is_finite : (goal.iterator-loop-patch g).is_finite l.patch-iterator;
  completes : Completes (map undone l.fn.rest.items) l.fn.new.items l.skipped.items (map undone l.rest.items) l.patch-iterator.rest.items l.merged.items l.skips.items;
  same_rest : l.merged.items ≡ [] → l.rest.items ≡ l.fn.rest.items;
}

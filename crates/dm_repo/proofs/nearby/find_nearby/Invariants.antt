use Rattle.std.proofs.Common.{◌≡◌, length}
use Rattle.dm_repo.specs.Nearby.{AreSortedTops}
use Rattle.dm_repo.proofs.nearby.find_nearby.Given as goal

abbrev pub invariant-loop : goal.invariant-loop
invariant-loop g l = record {
  marks : length l.nearby.marks.items ≡ length l.repo.patches;
  sorted : AreSortedTops l.nearby.paths.items;
}

use Rattle.std.proofs.Common.{◌≡◌, List, map, take}
use Rattle.dm_repo.specs.Merging.{MergesPast}
use Rattle.dm_repo.specs.Squares.{Placed, PlacedMerges, undone}
use Rattle.dm_repo.proofs.sifting.would_merge_all.Given as goal

abbrev pub invariant-loop-k : goal.invariant-loop-k
invariant-loop-k g l = record {
  same : l.rest ≡ l.initial.rest;
  joined : (near : List Placed) × MergesPast PlacedMerges (map undone (take l.k l.initial.rest)) l.initial.patch l.patch near;
}

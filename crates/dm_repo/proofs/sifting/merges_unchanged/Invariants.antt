use Rattle.std.proofs.Common.{◌≡◌, map, take}
use Rattle.dm_repo.specs.Merging.{MergesPast}
use Rattle.dm_repo.specs.Squares.{PlacedMerges, undone}
use Rattle.dm_repo.proofs.sifting.merges_unchanged.Given as goal

abbrev pub invariant-loop-k : goal.invariant-loop-k
invariant-loop-k g l = record {
  same : l.rest ≡ l.initial.rest;
  same_patch : l.patch ≡ l.initial.patch;
  joined : MergesPast PlacedMerges (map undone (take l.k l.initial.rest)) l.initial.patch l.initial.patch (map undone (take l.k l.initial.rest));
}

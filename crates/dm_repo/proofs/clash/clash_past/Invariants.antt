use Rattle.std.proofs.Common.{◌≡◌, map, take, drop}
use Rattle.dm_repo.specs.Merging.{MergesPast}
use Rattle.dm_repo.specs.Squares.{PlacedMerges, undone}
use Rattle.dm_repo.proofs.clash.clash_past.Given as goal

abbrev pub invariant-loop-k : goal.invariant-loop-k
invariant-loop-k g l = record {
  joined : MergesPast PlacedMerges (map undone (take l.k l.initial.rest)) l.initial.patch l.patch (map undone (take l.k l.rest));
  ahead : drop l.k l.rest ≡ drop l.k l.initial.rest;
}

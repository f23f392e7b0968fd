use Rattle.std.proofs.Common.{◌≡◌, List, drop}
use Rattle.dm_repo.specs.Staircases.{Passes}
use Rattle.dm_repo.specs.Squares.{Placed, PlacedCommutes}
use Rattle.dm_repo.proofs.sifting.would_pass_all.Given as goal

abbrev pub invariant-loop-k : goal.invariant-loop-k
invariant-loop-k g l = record {
  same : l.rest ≡ l.initial.rest;
  passed : (near : List Placed) × Passes PlacedCommutes (drop l.k l.initial.rest) l.initial.patch l.patch near;
}

use Rattle.std.proofs.Common.{◌≡◌, take, drop}
use Rattle.dm_repo.specs.Staircases.{Passes}
use Rattle.dm_repo.specs.Squares.{PlacedCommutes}
use Rattle.dm_repo.proofs.passing.pass.Given as goal

abbrev pub invariant-loop-k : goal.invariant-loop-k
invariant-loop-k g l = record {
  passed : Passes PlacedCommutes (drop l.k l.initial.rest) l.initial.patch l.patch (drop l.k l.rest);
  ahead : take l.k l.rest ≡ take l.k l.initial.rest;
}

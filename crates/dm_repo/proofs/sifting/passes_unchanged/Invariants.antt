use Rattle.std.proofs.Common.{◌≡◌, drop}
use Rattle.dm_repo.specs.Staircases.{Passes}
use Rattle.dm_repo.specs.Squares.{PlacedCommutes}
use Rattle.dm_repo.proofs.sifting.passes_unchanged.Given as goal

abbrev pub invariant-loop-k : goal.invariant-loop-k
invariant-loop-k g l = record {
  same : l.skipped ≡ l.initial.skipped;
  same_patch : l.patch ≡ l.initial.patch;
  passed : Passes PlacedCommutes (drop l.k l.initial.skipped) l.initial.patch l.initial.patch (drop l.k l.initial.skipped);
}

use Rattle.std.proofs.Common.{◌≡◌, List, drop}
use Rattle.dm_named.specs.Patches.{Patch}
use Rattle.dm_named.specs.Commuting.{NamedCommutes}
use Rattle.dm_repo.specs.Staircases.{Passes}
use Rattle.dm_send.proofs.leaving.stopper.Given as goal

abbrev pub invariant-loop-k : goal.invariant-loop-k
invariant-loop-k g l = record {
  same : l.row ≡ l.initial.row;
  passed : (left : List Patch) × Passes NamedCommutes (drop l.k l.initial.row) l.patch l.asked left;
}

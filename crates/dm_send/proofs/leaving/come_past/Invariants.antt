use Rattle.std.proofs.Common.{◌≡◌, take, drop}
use Rattle.dm_named.specs.Commuting.{NamedCommutes}
use Rattle.dm_repo.specs.Staircases.{Passes}
use Rattle.dm_send.proofs.leaving.come_past.Given as goal

abbrev pub invariant-loop-k : goal.invariant-loop-k
invariant-loop-k g l = record {
  passed : Passes NamedCommutes (drop l.k l.initial.row) l.initial.patch l.patch (drop l.k l.row);
  ahead : take l.k l.row ≡ take l.k l.initial.row;
}

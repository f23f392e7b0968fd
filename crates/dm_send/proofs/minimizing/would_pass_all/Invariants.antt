use Rattle.std.proofs.Common.{◌≡◌, List, take}
use Rattle.dm_prim.specs.Rectangles.{CellRow}
use Rattle.dm_named.specs.Patches.{Patch}
use Rattle.dm_named.specs.Commuting.{NamedCommutes}
use Rattle.dm_send.proofs.minimizing.would_pass_all.Given as goal

abbrev pub invariant-loop-k : goal.invariant-loop-k
invariant-loop-k g l = record {
  same : l.row ≡ l.initial.row;
  passed : (over : List Patch) × CellRow NamedCommutes l.initial.patch (take l.k l.initial.row) over l.patch;
}

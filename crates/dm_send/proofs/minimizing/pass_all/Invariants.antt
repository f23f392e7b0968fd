use Rattle.std.proofs.Common.{◌≡◌, take, drop}
use Rattle.dm_prim.specs.Rectangles.{CellRow}
use Rattle.dm_named.specs.Commuting.{NamedCommutes}
use Rattle.dm_send.proofs.minimizing.pass_all.Given as goal

abbrev pub invariant-loop-k : goal.invariant-loop-k
invariant-loop-k g l = record {
  passed : CellRow NamedCommutes l.initial.patch (take l.k l.initial.row) (take l.k l.row) l.patch;
  ahead : drop l.k l.row ≡ drop l.k l.initial.row;
}

use Rattle.std.proofs.Common.{◌≡◌, map, take, drop}
use Rattle.dm_prim.specs.Commuting.{Commutes}
use Rattle.dm_prim.specs.Prims.{prim_of}
use Rattle.dm_prim.specs.Rectangles.{CellRow}
use Rattle.dm_repo.proofs.clash.row_stop.Given as goal

abbrev pub invariant-loop-k : goal.invariant-loop-k
invariant-loop-k g l = record {
  passed : CellRow Commutes (prim_of l.x) (map prim_of (take l.k l.initial.row)) (map prim_of (take l.k l.row)) (prim_of l.first);
  ahead : drop l.k l.row ≡ drop l.k l.initial.row;
}

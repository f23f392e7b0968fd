use Rattle.std.proofs.Common.{take}
use Rattle.dm_folder.specs.Builds.{IsBuilt}
use Rattle.dm_folder.specs.Keeps.{Keeps}
use Rattle.dm_folder.specs.Walks.{rows_in}
use Rattle.dm_folder.proofs.building.build.Given as goal

abbrev pub invariant-loop-row : goal.invariant-loop-row
invariant-loop-row g l = record {
  built : IsBuilt (g.S.Source.Holds l.source) l.top (take l.row-index (rows_in l.rows)) l.tree;
  keeps : Keeps (g.S.Source.Lists l.fn.source) (g.S.Source.Lists l.source) (g.S.Source.Holds l.fn.source) (g.S.Source.Holds l.source) (g.S.Source.Fails l.fn.source) (g.S.Source.Fails l.source);
}

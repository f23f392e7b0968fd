use Rattle.std.proofs.Common.{◌≤◌, ◌-◌, length, take}
use Rattle.dm_folder.specs.Keeps.{Keeps}
use Rattle.dm_folder.specs.Walks.{IsWalk, refused_in, rows_in}
use Rattle.dm_folder.proofs.walking.walk_folder.Given as goal

abbrev pub invariant-loop-i : goal.invariant-loop-i
invariant-loop-i g l = record {
  walk : IsWalk (g.S.Source.Lists l.source) l.special l.top (take l.i (rows_in l.walk.rows.items)) (rows_in l.walk.rows.items) (refused_in l.walk.refused.items);
  within : l.i ≤ length l.walk.rows.items;
  keeps : Keeps (g.S.Source.Lists l.fn.source) (g.S.Source.Lists l.source) (g.S.Source.Holds l.fn.source) (g.S.Source.Holds l.source) (g.S.Source.Fails l.fn.source) (g.S.Source.Fails l.source);
}

abbrev pub decreases-loop-i : goal.decreases-loop-i
decreases-loop-i g l = 18446744073709551615 - l.i

use Rattle.std.proofs.Common.{◌≡◌, ◌++◌, map, take}
use Rattle.std.specs.List.{flat_map}
use Rattle.dm_folder.specs.Found.{told}
use Rattle.dm_folder.specs.Walks.{path_of, refused_in, refused_of, row_of, rows_in}
use Rattle.dm_folder.proofs.walking.list_into.Given as goal

abbrev pub invariant-loop-one : goal.invariant-loop-one
invariant-loop-one g l = record {
  rows : rows_in l.walk.rows.items ≡ rows_in l.fn.walk.rows.items ++ flat_map (row_of l.special (path_of l.dir)) (map told (take l.one-index l.one-items));
  refused : refused_in l.walk.refused.items ≡ refused_in l.fn.walk.refused.items ++ flat_map (refused_of l.special l.place.items (path_of l.dir)) (map told (take l.one-index l.one-items));
}

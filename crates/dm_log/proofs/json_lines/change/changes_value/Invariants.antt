use Rattle.std.proofs.Common.{◌≡◌, map, take}
use Rattle.serde_json.specs.View.{view}
use Rattle.dm_prim.specs.Prims.{prims_of}
use Rattle.dm_log.specs.Json.{change_data}
use Rattle.dm_log.proofs.json_lines.change.changes_value.Given as goal

abbrev pub invariant-loop-prim : goal.invariant-loop-prim
invariant-loop-prim g l = map view l.list.items ≡ map change_data (take l.prim-index (prims_of l.prims))

use Rattle.std.proofs.Common.{◌≡◌, map, take}
use Rattle.serde_json.specs.Data.{string}
use Rattle.serde_json.specs.View.{view}
use Rattle.dm_log.specs.Json.{in_hex}
use Rattle.dm_log.proofs.json_lines.object.hex_lines.Given as goal

abbrev pub invariant-loop-i : goal.invariant-loop-i
invariant-loop-i g l = map view l.list.items ≡ map (λ t. string (in_hex t)) (take l.i l.lines)

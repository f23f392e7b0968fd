use Rattle.std.proofs.Common.{◌≡◌, take}
use Rattle.std.specs.List.{All, flat_map}
use Rattle.dm_log.specs.Choices.{chosen, placed_from}
use Rattle.dm_log.specs.Json.{ReadsBack, json_line}
use Rattle.dm_log.proofs.json_lines.write_json.Given as goal

abbrev pub invariant-loop-k : goal.invariant-loop-k
invariant-loop-k g l =
    (l.text.items ≡ flat_map json_line (take l.k (chosen l.options (placed_from 1 (g.P.Patches.patches l.patches)))))
    × All ReadsBack (take l.k (chosen l.options (placed_from 1 (g.P.Patches.patches l.patches))))

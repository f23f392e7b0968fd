use Rattle.std.proofs.Common.{◌≡◌, ◌∷◌, take}
use Rattle.std.specs.List.{flat_map}
use Rattle.dm_log.proofs.json_lines.change.dotted_path.Given as goal

abbrev pub invariant-loop-i : goal.invariant-loop-i
invariant-loop-i g l = l.text.items ≡ 46 ∷ flat_map (λ n. 47 ∷ n) (take l.i l.path)

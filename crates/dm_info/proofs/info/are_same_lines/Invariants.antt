use Rattle.std.proofs.Common.{◌≡◌, map, drop}
use Rattle.std.specs.Cmp.Lexicographic.{pointwise}
use Rattle.dm_info.specs.Compared.{text_eq}
use Rattle.dm_info.proofs.info.are_same_lines.Given as goal

abbrev pub invariant-loop-i : goal.invariant-loop-i
invariant-loop-i g l = pointwise text_eq (map (λ l. l.items) (drop l.i l.xs)) (map (λ l. l.items) (drop l.i l.ys)) ≡ pointwise text_eq (map (λ l. l.items) l.xs) (map (λ l. l.items) l.ys)

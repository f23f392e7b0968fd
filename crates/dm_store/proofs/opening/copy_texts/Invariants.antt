use Rattle.std.proofs.Common.{◌≡◌, ◌≤◌, drop, map, take}
use Rattle.dm_store.proofs.opening.copy_texts.Given as goal

abbrev pub invariant-loop-i : goal.invariant-loop-i
invariant-loop-i l = (l.fn.from ≤ l.i) × (map (λ text. text.items) l.copies.items ≡ drop l.fn.from (take l.i l.fn.entries))

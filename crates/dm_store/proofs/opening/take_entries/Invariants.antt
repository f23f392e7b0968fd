use Rattle.std.proofs.Common.{◌≡◌, ◌++◌, ℕ, List, length, map, take}
use Rattle.dm_store.specs.Keeping.{FoldTo, kept_as}
use Rattle.dm_store.proofs.opening.take_entries.Given as goal

abbrev pub invariant-loop-i : goal.invariant-loop-i
invariant-loop-i l = (before : List (List ℕ)) → length before ≡ l.fn.from → FoldTo l.fn.kinds before (kept_as l.fn.base l.fn.repo.patches) → FoldTo l.fn.kinds (before ++ map (λ text. text.items) (take l.i l.fn.texts)) (kept_as l.base l.repo.patches)

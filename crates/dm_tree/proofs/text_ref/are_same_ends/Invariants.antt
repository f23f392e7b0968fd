use Rattle.std.proofs.Common.{◌≡◌, ℕ, ◌-◌, ◌<◌, get_or}
use Rattle.dm_tree.proofs.text_ref.are_same_ends.Given as goal

abbrev pub invariant-loop-i : goal.invariant-loop-i
invariant-loop-i l = (k : ℕ) → k < l.i → get_or l.ends k 0 - l.from ≡ get_or l.others k 0 - l.to

use Rattle.std.proofs.Common.{◌≡◌, ◌≤◌, ◌*◌, take, length, ℕ}
use Rattle.std.specs.Prelude.{sum_by}
use Rattle.dm_tree.specs.Files.{joined}
use Rattle.dm_tree.proofs.parts.size.Given as goal

pub record Kept (total here index : ℕ) : Type 0 where
  pub value : total ≡ here
  pub bound : total ≤ index * 18446744073709551615

abbrev pub invariant-loop-part : goal.invariant-loop-part
invariant-loop-part g l = Kept l.total (sum_by length (joined (take l.part-index l.parts))) l.part-index

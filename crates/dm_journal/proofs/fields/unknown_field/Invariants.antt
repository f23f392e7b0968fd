use Rattle.std.proofs.Common.{◌≡◌, ◌++◌, List, ℕ, codes, length}
use Rattle.dm_journal.specs.Fields.{AreFields}
use Rattle.dm_journal.proofs.fields.unknown_field.Given as goal

abbrev pub invariant-loop-end : goal.invariant-loop-end
invariant-loop-end l = record { known : (bytes : List ℕ) × (l.file ≡ codes "dm journal fields\n" ++ bytes) × ((lines : List (List ℕ)) × AreFields bytes lines l.rest) }

abbrev pub decreases-loop-end : goal.decreases-loop-end
decreases-loop-end l = length l.rest

use Rattle.std.proofs.Common.{length, ◌-◌, ◌≤◌, ◌≡◌, drop}
use Rattle.dm_named.specs.Many.{Many}
use Rattle.dm_named.specs.Conflictors.{OriginalText, sizes_of}
use Rattle.dm_named.specs.ConflictorFaults.{less}
use Rattle.dm_named.proofs.reading.originals.originals_at.Given as goal

abbrev pub invariant-loop-alloc : goal.invariant-loop-alloc
invariant-loop-alloc g l =
    record {
      forward : l.start ≤ l.end;
      within : l.end ≤ length l.text;
      few : sizes_of l.originals.items ≤ l.limits.prims;
      left : l.left ≡ less l.limits (sizes_of l.originals.items);
      read : Many (OriginalText l.limits.kinds) (drop l.start l.text) l.originals.items (drop l.end l.text);
    }

abbrev pub decreases-loop-alloc : goal.decreases-loop-alloc
decreases-loop-alloc g l = length l.text - l.end

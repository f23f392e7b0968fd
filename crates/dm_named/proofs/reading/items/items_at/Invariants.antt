use Rattle.std.proofs.Common.{length, ◌-◌, ◌≤◌, ◌≡◌, drop}
use Rattle.dm_named.specs.Many.{Many}
use Rattle.dm_named.specs.ConflictorFaults.{less}
use Rattle.dm_named.specs.MergedPatches.{NextItem, body_size}
use Rattle.dm_named.specs.Items.{items_of}
use Rattle.dm_named.proofs.reading.items.items_at.Given as goal

abbrev pub invariant-loop-word : goal.invariant-loop-word
invariant-loop-word g l =
    record {
      forward : l.start ≤ l.end;
      within : l.end ≤ length l.text;
      few : body_size (items_of l.items.items) ≤ l.limits.prims;
      left : l.left ≡ less l.limits (body_size (items_of l.items.items));
      read : Many (NextItem l.limits.kinds) (drop l.start l.text) (items_of l.items.items) (drop l.end l.text);
    }

abbrev pub decreases-loop-word : goal.decreases-loop-word
decreases-loop-word g l = length l.text - l.end

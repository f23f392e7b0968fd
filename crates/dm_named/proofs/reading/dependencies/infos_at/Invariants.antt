use Rattle.std.proofs.Common.{length, ◌-◌, ◌≤◌, ◌≡◌, drop}
use Rattle.dm_named.specs.Many.{Many}
use Rattle.dm_named.specs.Words.{skipped}
use Rattle.dm_named.specs.Patches.{NextInfo}
use Rattle.dm_named.proofs.reading.dependencies.infos_at.Given as goal

abbrev pub invariant-loop-alloc : goal.invariant-loop-alloc
invariant-loop-alloc g l =
    record {
      forward : l.start ≤ l.end;
      ahead : l.end ≤ l.here;
      within : l.here ≤ length l.text;
      white : drop l.here l.text ≡ skipped (drop l.end l.text);
      read : Many NextInfo (drop l.start l.text) l.infos.items (drop l.end l.text);
    }

abbrev pub decreases-loop-alloc : goal.decreases-loop-alloc
decreases-loop-alloc g l = length l.text - l.here

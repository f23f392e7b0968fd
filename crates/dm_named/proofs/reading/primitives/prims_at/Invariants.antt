use Rattle.std.proofs.Common.{length, ◌-◌, ◌≤◌, drop}
use Rattle.dm_prim.specs.Prims.{prims_of}
use Rattle.dm_named.specs.Many.{Many}
use Rattle.dm_named.specs.Patches.{NextPrim}
use Rattle.dm_named.proofs.reading.primitives.prims_at.Given as goal

abbrev pub invariant-loop-word : goal.invariant-loop-word
invariant-loop-word g l =
    record {
      forward : l.start ≤ l.end;
      within : l.end ≤ length l.text;
      few : length (prims_of l.prims.items) ≤ l.limits.prims;
      read : Many (NextPrim l.limits.kinds) (drop l.start l.text) (prims_of l.prims.items) (drop l.end l.text);
    }

abbrev pub decreases-loop-word : goal.decreases-loop-word
decreases-loop-word g l = length l.text - l.end

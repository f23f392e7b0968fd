use Rattle.std.proofs.Common.{length, ◌+◌, ◌-◌, ◌≤◌, ◌≡◌, drop}
use Rattle.dm_named.specs.Words.{skipped}
use Rattle.dm_bundle.specs.Patches.{infos_of, SameMembers, NewPatches, AreFewWithin}
use Rattle.dm_bundle.specs.Room.{LeavesRoom}
use Rattle.dm_bundle.proofs.patches.patches_at.Given as goal

abbrev pub invariant-loop-alloc : goal.invariant-loop-alloc
invariant-loop-alloc g l = record {
  end : l.end ≤ length l.text;
  here : l.here ≤ length l.text;
  place : drop l.here l.text ≡ skipped (drop l.end l.text);
  read : NewPatches l.limits.kinds (drop l.start l.text) l.patches.items (drop l.end l.text);
  known : SameMembers l.known (infos_of l.patches.items);
  few : AreFewWithin l.limits l.patches.items;
  room : LeavesRoom l.limits l.patches.items l.room;
}

abbrev pub decreases-loop-alloc : goal.decreases-loop-alloc
decreases-loop-alloc g l = l.limits.patches + 1 - length l.patches.items

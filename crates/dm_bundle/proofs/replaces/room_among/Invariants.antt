use Rattle.std.proofs.Common.{◌≡◌, ◌+◌, take}
use Rattle.dm_prim.specs.Prims.{prims_of}
use Rattle.dm_bundle.specs.Patches.{replaces_among}
use Rattle.dm_bundle.proofs.replaces.room_among.Given as goal

abbrev pub invariant-loop-prim : goal.invariant-loop-prim
invariant-loop-prim g l = l.left + replaces_among (prims_of (take l.prim-index l.prims)) ≡ l.fn.room

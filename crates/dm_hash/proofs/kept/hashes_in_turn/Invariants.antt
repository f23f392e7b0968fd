use Rattle.std.proofs.Common.{take}
use Rattle.sha1.specs.Sha1.{Holds}
use Rattle.dm_hash.specs.Kept.{in_turn, darcs1_body, darcs2_body}
use Rattle.dm_hash.proofs.kept.hashes_in_turn.Given as goal

abbrev pub invariant-loop-patch : goal.invariant-loop-patch
invariant-loop-patch g l = record {
  darcs1 : Holds l.darcs1 (in_turn darcs1_body (take l.patch-index l.patches));
  darcs2 : Holds l.darcs2 (in_turn darcs2_body (take l.patch-index l.patches));
}

use Rattle.std.proofs.Common.{◌≡◌, ◌<◌, ◌+◌, ℕ, take}
use Rattle.std.specs.List.{fold}
use Rattle.std.specs.Int.{bit_at}
use Rattle.std.specs.Hash.DefaultHasher.{initial, write}
use Rattle.dm_prim.specs.Sketches.{bit_of, Keeps}
use Rattle.dm_prim.proofs.sketch.with_leading.Given as goal

abbrev pub invariant-loop-k : goal.invariant-loop-k
invariant-loop-k g l = record {
  hashed : l.hasher ≡ fold write initial (take l.k l.path);
  kept : Keeps l.fn.bits l.leading;
  set : (j : ℕ) → j < l.k → bit_at l.leading (bit_of (take (j + 1) l.path)) ≡ 1;
}

use Rattle.std.proofs.Common.{◌*◌, ◌^◌, ◌%◌}
use Rattle.std.specs.Int.{w128}
use Rattle.std.proofs.lemmas.Nat.Bits.{bit_at_set_same}
use Rattle.dm_prim.proofs.SketchLemmas.{keeps_or}
use Rattle.dm_prim.proofs.sketch.with_bit.Goals as goal

pub returns-clause-set : goal.returns-clause-set
returns-clause-set c = bit_at_set_same w128 c.args.bits c.args.bit c.requires

pub returns-clause-kept : goal.returns-clause-kept
returns-clause-kept c = keeps_or c.args.bits (1 * 2 ^ c.args.bit % 340282366920938463463374607431768211456)

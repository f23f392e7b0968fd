use Rattle.std.specs.Int.Bits.{bit_and}
use Rattle.std.proofs.lemmas.Bool.{eqb-true}
use Rattle.dm_prim.proofs.SketchLemmas.{bits_apart}
use Rattle.dm_prim.proofs.sketch.Sketch.is_apart_from.Goals as goal

pub returns : goal.returns
returns c = λ t fs gs a b. bits_apart c.args.self.now c.args.other.now c.if-self-other-ne0.false (eqb-true (bit_and c.args.self.now.leading c.args.other.now.whole) 0 t) fs gs a b

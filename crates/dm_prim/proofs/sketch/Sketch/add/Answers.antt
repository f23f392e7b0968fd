use Rattle.std.specs.Int.{bit_at}
use Rattle.std.proofs.Common.{◌≡◌, subst}
use Rattle.dm_prim.proofs.sketch.Sketch.add.Goals as goal

pub returns : goal.returns
returns g c = record {
  below_root = c.with_leading-bit.ensures.below_root;
  keeps_whole = c.with_bit-self.ensures.kept;
  keeps_leading = c.with_leading-bit.ensures.kept;
  whole = subst (λ z. bit_at c.with_bit-self.result z ≡ 1) c.with_leading-bit.ensures.bit c.with_bit-self.ensures.set;
  leading = c.with_leading-bit.ensures.leading;
}

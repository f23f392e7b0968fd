use Rattle.dm_prim.specs.Touch.{IsApartFrom}
use Rattle.dm_prim.proofs.TouchLemmas.{holds_of}
use Rattle.dm_prim.proofs.glance.Glance.is_aside.Goals as goal

pub returns : goal.returns
returns c = λ t ps paths is covers. record {
  valid = is.valid;
  moves = is.moves c.if-not-self.false;
  apart = λ f u. holds_of (IsApartFrom paths) is.paths (c.is_apart_from.ensures t is.paths paths is.covers covers) (is.touched f u);
}

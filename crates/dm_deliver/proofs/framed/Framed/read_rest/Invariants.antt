use Rattle.std.proofs.Common.{◌≡◌}
use Rattle.std.specs.Io.KnownBytes.{Keeps}
use Rattle.dm_deliver.specs.declared.place.Place.TheVariants.{Text}
use Rattle.dm_deliver.specs.Framing.{left_in}
use Rattle.dm_deliver.proofs.framed.Framed.read_rest.Given as goal

abbrev pub invariant-loop-left : goal.invariant-loop-left
invariant-loop-left g l = record {
  kept : Keeps (left_in g.R.Read.remaining l.fn.self) (left_in g.R.Read.remaining l.self);
  given : l.self.given ≡ l.fn.self.given;
  place : l.self.place ≡ Text l.left;
}

abbrev pub decreases-loop-left : goal.decreases-loop-left
decreases-loop-left g l = l.left

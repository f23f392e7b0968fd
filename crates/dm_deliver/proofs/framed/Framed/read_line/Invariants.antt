use Rattle.std.proofs.Common.{◌≡◌}
use Rattle.std.specs.Io.KnownBytes.{Keeps}
use Rattle.dm_deliver.specs.Framing.{left_in}
use Rattle.dm_deliver.specs.FrameReading.{line_room}
use Rattle.dm_deliver.proofs.framed.Framed.read_line.Given as goal

abbrev pub invariant-loop-self : goal.invariant-loop-self
invariant-loop-self g l = record {
  kept : Keeps (left_in g.R.Read.remaining l.fn.self) (left_in g.R.Read.remaining l.self);
  given : l.self.given ≡ l.fn.self.given;
}

abbrev pub decreases-loop-self : goal.decreases-loop-self
decreases-loop-self g l = line_room l.self.place

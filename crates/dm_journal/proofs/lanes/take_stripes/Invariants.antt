use Rattle.std.proofs.Common.{◌≡◌, slice_index}
use Rattle.dm_journal.specs.Lanes.{lane_after}
use Rattle.dm_journal.proofs.lanes.take_stripes.Given as goal

abbrev pub invariant-stripes : goal.invariant-stripes
invariant-stripes l = record {
  first : l.a ≡ lane_after (slice_index l.fn.lanes 0) l.text 0 l.i;
  second : l.b ≡ lane_after (slice_index l.fn.lanes 1) l.text 1 l.i;
  third : l.c ≡ lane_after (slice_index l.fn.lanes 2) l.text 2 l.i;
  fourth : l.d ≡ lane_after (slice_index l.fn.lanes 3) l.text 3 l.i;
}

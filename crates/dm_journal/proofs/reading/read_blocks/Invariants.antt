use Rattle.std.proofs.Common.{◌≡◌, ◌≤◌, ◌-◌, [], length, drop}
use Rattle.dm_journal.specs.Journal.{Begins, link_after, link_bytes}
use Rattle.dm_journal.specs.Texts.{ranges_of}
use Rattle.dm_journal.proofs.reading.read_blocks.Given as goal

abbrev pub invariant-walk : goal.invariant-walk
invariant-walk l = record {
  within : l.at ≤ length l.bytes;
  begins : Begins l.format l.bytes (ranges_of l.bytes l.ranges.items) (drop l.at l.bytes);
  linked : link_bytes l.link ≡ link_after l.format [] (ranges_of l.bytes l.ranges.items);
}

abbrev pub decreases-walk : goal.decreases-walk
decreases-walk l = length l.bytes - l.at

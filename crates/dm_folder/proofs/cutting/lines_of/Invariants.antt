use Rattle.std.proofs.Common.{◌≡◌, ◌++◌, length}
use Rattle.dm_tree.specs.Validity.{ArePlain}
use Rattle.dm_hex.proofs.ContentLemmas.{ended}
use Rattle.dm_folder.proofs.cutting.lines_of.Given as goal

abbrev pub invariant-loop-end : goal.invariant-loop-end
invariant-loop-end l = record {
  whole : ended l.lines ++ l.rest ≡ l.bytes;
  plain : ArePlain l.lines;
}

abbrev pub decreases-loop-end : goal.decreases-loop-end
decreases-loop-end l = length l.rest

use Rattle.std.proofs.Common.{length}
use Rattle.dm_explain.proofs.misfits.write_replace.Given as goal

abbrev pub decreases-loop-text : goal.decreases-loop-text
decreases-loop-text g l = length l.lines

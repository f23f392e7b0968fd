use Rattle.std.proofs.Common.{◌≡◌, false, length, map}
use Rattle.dm_info.specs.Reading.{log_from}
use Rattle.dm_info.proofs.LogLemmas.{with_front}
use Rattle.dm_info.proofs.reading.log_of.Given as goal

abbrev pub invariant-loop-inside : goal.invariant-loop-inside
invariant-loop-inside g l = with_front (map (λ l. l.items) l.log.items) (log_from false l.rest) ≡ log_from false l.text

abbrev pub decreases-loop-inside : goal.decreases-loop-inside
decreases-loop-inside g l = length l.rest

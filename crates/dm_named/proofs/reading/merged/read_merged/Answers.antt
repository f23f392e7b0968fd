use Rattle.std.proofs.Common.{drop}
use Rattle.dm_named.proofs.MergedLemmas.{one_merged}
use Rattle.dm_named.proofs.NoMerged.{merged_past, memory_fails_merged}
use Rattle.dm_named.proofs.reading.merged.read_merged.Goals as goal

pub returns-in-Ok-clause-only : goal.returns-in-Ok-clause-only
returns-in-Ok-clause-only g c = λ p rest t. one_merged c.args.limits.kinds (drop c.args.at c.args.text.now) c.in-Ok.found.0 p (drop c.in-Ok.found.1 c.args.text.now) rest c.in-Ok.ensures.ok t

pub returns-in-Ok-clause-within_count : goal.returns-in-Ok-clause-within_count
returns-in-Ok-clause-within_count g c = λ p rest t few. one_merged c.args.limits.kinds (drop c.args.at c.args.text.now) c.in-Ok.found.0 p (drop c.in-Ok.found.1 c.args.text.now) rest c.in-Ok.ensures.ok t

pub returns-in-Err-clause-none : goal.returns-in-Err-clause-none
returns-in-Err-clause-none g c = λ k p rest t. k.count (merged_past c.args.limits c.in-Err.e.kind (drop c.args.at c.args.text.now) (drop c.in-Err.e.at c.args.text.now) k.memory c.in-Err.ensures.err p rest t).0

pub returns-in-Err-clause-within_count : goal.returns-in-Err-clause-within_count
returns-in-Err-clause-within_count g c = λ p rest t few. memory_fails_merged c.args.limits c.in-Err.e.kind (drop c.args.at c.args.text.now) (drop c.in-Err.e.at c.args.text.now) c.in-Err.ensures.err p rest t few

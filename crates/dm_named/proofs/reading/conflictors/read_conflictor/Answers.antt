use Rattle.std.proofs.Common.{drop}
use Rattle.dm_named.proofs.ConflictorLemmas.{one_conflictor}
use Rattle.dm_named.proofs.NoConflictor.{conflictor_past, memory_fails_alone}
use Rattle.dm_named.proofs.reading.conflictors.read_conflictor.Goals as goal

pub returns-in-Ok-clause-only : goal.returns-in-Ok-clause-only
returns-in-Ok-clause-only g c = λ d rest t. one_conflictor c.args.limits.kinds (drop c.args.at c.args.text.now) c.in-Ok.found.0 d (drop c.in-Ok.found.1 c.args.text.now) rest c.in-Ok.ensures.ok t

pub returns-in-Ok-clause-within_count : goal.returns-in-Ok-clause-within_count
returns-in-Ok-clause-within_count g c = λ d rest t few. one_conflictor c.args.limits.kinds (drop c.args.at c.args.text.now) c.in-Ok.found.0 d (drop c.in-Ok.found.1 c.args.text.now) rest c.in-Ok.ensures.ok t

pub returns-in-Err-clause-none : goal.returns-in-Err-clause-none
returns-in-Err-clause-none g c = λ k d rest t. k.count (conflictor_past c.args.limits c.in-Err.e.kind (drop c.args.at c.args.text.now) (drop c.in-Err.e.at c.args.text.now) k.memory c.in-Err.ensures.err d rest t).0

pub returns-in-Err-clause-within_count : goal.returns-in-Err-clause-within_count
returns-in-Err-clause-within_count g c = λ d rest t few. memory_fails_alone c.args.limits c.in-Err.e.kind (drop c.args.at c.args.text.now) (drop c.in-Err.e.at c.args.text.now) c.in-Err.ensures.err d rest t few

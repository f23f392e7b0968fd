use Rattle.std.proofs.Common.{drop}
use Rattle.dm_named.proofs.OnePatch.{one_patch}
use Rattle.dm_named.proofs.NoPatch.{no_patch}
use Rattle.dm_named.proofs.WithinCount.{memory_alone}
use Rattle.dm_named.proofs.reading.read_named_within.Goals as goal

pub returns-in-Ok-clause-only : goal.returns-in-Ok-clause-only
returns-in-Ok-clause-only g c = λ p rest s. one_patch c.args.limits.kinds (drop c.args.at c.args.text.now) c.in-Ok.found.0 p (drop c.in-Ok.found.1 c.args.text.now) rest c.in-Ok.ensures.ok s

pub returns-in-Err-clause-none : goal.returns-in-Err-clause-none
returns-in-Err-clause-none g c = λ k. no_patch _ c.in-Err.e.kind (drop c.args.at c.args.text.now) (drop c.in-Err.e.at c.args.text.now) k c.in-Err.ensures.err

pub returns-in-Ok-clause-within_count : goal.returns-in-Ok-clause-within_count
returns-in-Ok-clause-within_count g c = λ p rest s few. one_patch c.args.limits.kinds (drop c.args.at c.args.text.now) c.in-Ok.found.0 p (drop c.in-Ok.found.1 c.args.text.now) rest c.in-Ok.ensures.ok s

pub returns-in-Err-clause-within_count : goal.returns-in-Err-clause-within_count
returns-in-Err-clause-within_count g c = λ p rest s few. memory_alone c.args.limits c.in-Err.e.kind (drop c.args.at c.args.text.now) (drop c.in-Err.e.at c.args.text.now) c.in-Err.ensures.err p rest s few

use Rattle.dm_named.proofs.NameLemmas.{no_end, no_code}
use Rattle.dm_named.proofs.reading.names.byte_of.Goals as goal

pub returns-in_err-end-clause-none : goal.returns-in_err-end-clause-none
returns-in_err-end-clause-none c = rw c.from_residual.ensures (no_end c.args.text.now c.in-Some.inside.now c.in-Some.ensures c.in_err-end.ensures)

pub returns-in_err-byte-clause-none : goal.returns-in_err-byte-clause-none
returns-in_err-byte-clause-none c = rw c.from_residual-in_err-byte.ensures (no_code c.args.text.now c.in-Some.inside.now c.in_ok-end.end c.in-Some.ensures c.in_ok-end.ensures c.in_err-byte.ensures.none)

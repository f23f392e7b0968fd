use Rattle.dm_deliver.proofs.FrameLemmas.{first_digit}
use Rattle.dm_deliver.proofs.LineLemmas.{no_byte_more, no_length, if_none}
use Rattle.dm_deliver.proofs.place.after.Goals as goal

pub returns-then-byte-ne10-clause-none : goal.returns-then-byte-ne10-clause-none
returns-then-byte-ne10-clause-none c = no_byte_more c.args.number c.args.byte c.in_default.ensures.none c.if-byte-ne10.true

pub returns-in_err-number-clause-none : goal.returns-in_err-number-clause-none
returns-in_err-number-clause-none c = if_none c.from_residual.result _ (no_length c.args.number c.args.byte c.in_err-number.was c.in_default.ensures.none)

pub returns-in_default-number-clause-some : goal.returns-in_default-number-clause-some
returns-in_default-number-clause-some c = first_digit c.args.number c.in-Some.digit c.args.byte c.in_default-number.is c.in-Some.ensures.some.0 c.in-Some.ensures.some.1

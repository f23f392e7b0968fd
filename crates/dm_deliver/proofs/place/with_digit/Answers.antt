use Rattle.std.proofs.Common.{arith, inl, inr}
use Rattle.dm_deliver.proofs.FrameLemmas.{decimal_more}
use Rattle.dm_deliver.proofs.LineLemmas.{no_digit_more}
use Rattle.dm_deliver.proofs.place.with_digit.Goals as goal

pub returns-then-number-eq0-clause-none : goal.returns-then-number-eq0-clause-none
returns-then-number-eq0-clause-none c = no_digit_more c.args.number c.args.digit (omega (arith, c.ranges.number.fits)) c.requires (inl c.if-number-eq0.true)

pub returns-then-number-digit-clause-none : goal.returns-then-number-digit-clause-none
returns-then-number-digit-clause-none c =
    no_digit_more c.args.number c.args.digit (omega (arith, c.ranges.number.fits)) c.requires (inr (omega (arith, c.if-number-eq0.false), omega (arith, c.requires, c.if-number-digit.true)))

pub returns-clause-some : goal.returns-clause-some
returns-clause-some c = decimal_more c.args.number c.args.digit (omega (arith, c.if-number-eq0.false)) c.requires (omega (arith, c.requires, c.if-number-digit.false))

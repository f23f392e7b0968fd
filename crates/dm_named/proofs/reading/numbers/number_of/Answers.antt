use Rattle.std.proofs.Common.{arith}
use Rattle.dm_named.proofs.GroupLemmas.{each_digit, too_large, number_read}
use Rattle.dm_named.proofs.reading.numbers.number_of.Goals as goal

pub returns-then-number-gt4294967295-clause-none : goal.returns-then-number-gt4294967295-clause-none
returns-then-number-gt4294967295-clause-none c = too_large c.args.digits.now c.loop-digit.digit-index c.loop-digit.number c.loop-digit-test.true c.loop-digit.invariant.0 c.if-number-gt4294967295.true

pub returns-clause-found : goal.returns-clause-found
returns-clause-found c =
    record {
      each = each_digit c.args.digits.now (λ k lt. c.loop-digit.invariant.1 k (omega (arith, c.loop-digit-test.false, lt)));
      value = number_read c.args.digits.now c.loop-digit.digit-index c.loop-digit.number c.loop-digit-test.false c.loop-digit.invariant.0;
      low = omega (arith, c.if-number-eq0.false);
      high = c.loop-digit.invariant.2;
    }

use Rattle.std.proofs.Common.{drop}
use Rattle.dm_named.proofs.GroupLemmas.{no_digits_line, no_blank_line, not_blank}
use Rattle.dm_named.proofs.reading.numbers.number_at.Goals as goal

pub returns-in_default-clause-err : goal.returns-in_default-clause-err
returns-in_default-clause-err c =
    let text = c.args.text.now in
    rw (← c.skip-at.ensures.rest) (no_digits_line (drop c.skip-at.result text) c.word_at-after.result.0.now (drop c.word_at-after.result.1 text) c.word_at-after.ensures.word c.in_default.ensures.none)

pub returns-then-not-is_blank-clause-err : goal.returns-then-not-is_blank-clause-err
returns-then-not-is_blank-clause-err c =
    let text = c.args.text.now in
    rw (← c.skip-at.ensures.rest)
    (no_blank_line (drop c.skip-at.result text) c.word_at-after.result.0.now (drop c.word_at-after.result.1 text) c.word_at-after.ensures.word
    (not_blank (drop c.word_at-after.result.1 text) c.line_at-next.result.0.now (drop c.line_at-next.result.1 text) c.line_at-next.ensures.line c.if-not-is_blank.ensures))

use Rattle.std.proofs.Common.{drop, refl, inr}
use Rattle.dm_named.proofs.BinaryLemmas.{no_such_word, no_hex_there}
use Rattle.dm_named.proofs.reading.binaries.stars_at.Goals as goal

pub returns-then-not-same-clause-err : goal.returns-then-not-same-clause-err
returns-then-not-same-clause-err g c =
    let text = c.args.text.now in
    inr (
      refl,
      record {
        place = c.skip-here.ensures.rest;
        none = no_such_word c.args.word.now (drop c.skip-here.result text) c.word_at-after.result.0.now (drop c.word_at-after.result.1 text) c.word_at-after.ensures.word c.if-not-same.ensures;
      },
    )

pub returns-in-Ok-None-clause-err : goal.returns-in-Ok-None-clause-err
returns-in-Ok-None-clause-err g c =
    let text = c.args.text.now in
    inr (
      refl,
      record {
        place = c.skip-here.ensures.rest;
        none = no_hex_there c.args.word.now (drop c.skip-here.result text) (drop c.word_at-after.result.1 text) c.in-Ok.read.0 (drop c.in-Ok.read.1 text)
            (rw c.if-not-same.ensures at c.word_at-after.ensures.word) (rw c.skip-stars.ensures.rest at c.in-Ok.ensures.ok) (rw c.in-Ok-None.field-0-is at c.in-Ok-None.ensures.none);
      },
    )

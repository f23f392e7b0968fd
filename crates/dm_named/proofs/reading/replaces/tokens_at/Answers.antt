use Rattle.std.proofs.Common.{drop}
use Rattle.dm_named.proofs.ReplaceLemmas.{no_set, no_tokens}
use Rattle.dm_named.proofs.reading.replaces.tokens_at.Goals as goal

pub returns-in_default-clause-none : goal.returns-in_default-clause-none
returns-in_default-clause-none g c =
    let text = c.args.text.now in
    no_set (drop c.args.at text) c.word_at-olds.result.0.now (drop c.word_at-olds.result.1 text) c.word_at-olds.ensures.word (rw c.in_default.is at c.set_in.ensures)

pub returns-in-None-clause-none : goal.returns-in-None-clause-none
returns-in-None-clause-none g c =
    let text = c.args.text.now in
    no_tokens (drop c.args.at text) c.word_at-olds.result.0.now (drop c.word_at-olds.result.1 text) (drop c.skip.result text) (drop c.word_at-news.result.1 text) (drop c.skip-2.result text) (drop c.word_at-end.result.1 text)
    (record { set = c.in-Some.set.now; old = c.word_at-news.result.0.now; new = c.word_at-end.result.0.now }) c.word_at-olds.ensures.word c.in-Some.ensures c.skip.ensures.rest c.word_at-news.ensures.word c.skip-2.ensures.rest c.word_at-end.ensures.word
    (rw c.in-None.is at c.in_ok-tokens.ensures.none)

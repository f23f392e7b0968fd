use Rattle.std.proofs.Common.{drop}
use Rattle.dm_named.proofs.ItemParts.{no_item_word}
use Rattle.dm_named.proofs.reading.words.item_word_at.Goals as goal

pub returns-in-Unsupported-clause-none : goal.returns-in-Unsupported-clause-none
returns-in-Unsupported-clause-none c =
    let text = c.args.text.now in
    rw (← c.skip-here.ensures.rest) (no_item_word c.args.kinds (drop c.skip-here.result text) c.word_at-next.result.0.now (drop c.word_at-next.result.1 text) c.word_at-next.ensures.word c.if-same.ensures c.in-Unsupported.ensures.1)

pub returns-in-Other-clause-none : goal.returns-in-Other-clause-none
returns-in-Other-clause-none c =
    let text = c.args.text.now in
    rw (← c.skip-here.ensures.rest) (no_item_word c.args.kinds (drop c.skip-here.result text) c.word_at-next.result.0.now (drop c.word_at-next.result.1 text) c.word_at-next.ensures.word c.if-same.ensures c.in-Other.ensures.0)

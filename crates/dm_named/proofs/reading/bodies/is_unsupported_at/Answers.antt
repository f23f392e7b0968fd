use Rattle.std.proofs.Common.{drop}
use Rattle.dm_named.specs.Patches.{unsupported_words_of}
use Rattle.dm_named.proofs.PrimLemmas.{no_a_word}
use Rattle.dm_named.proofs.KindLemmas.{words_apart}
use Rattle.dm_named.proofs.reading.bodies.is_unsupported_at.Goals as goal

pub returns-in-Other : goal.returns-in-Other
returns-in-Other c =
    let text = c.args.text.now in
    (no_a_word (unsupported_words_of c.args.kinds) (drop c.args.at text) c.word_at-next.result.0.now (drop c.word_at-next.result.1 text) c.word_at-next.ensures.word c.in-Other.ensures.1, c.if-begins_at.ensures)

pub returns-in-Prim : goal.returns-in-Prim
returns-in-Prim c =
    let text = c.args.text.now in (
      no_a_word (unsupported_words_of c.args.kinds) (drop c.args.at text) c.word_at-next.result.0.now (drop c.word_at-next.result.1 text) c.word_at-next.ensures.word (words_apart c.args.kinds c.word_at-next.result.0.now c.in-Prim.ensures.1),
      c.if-begins_at.ensures,
    )

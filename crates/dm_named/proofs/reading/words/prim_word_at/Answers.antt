use Rattle.std.proofs.Common.{drop}
use Rattle.dm_named.specs.Patches.{prim_words_of}
use Rattle.dm_named.proofs.PrimLemmas.{no_a_word}
use Rattle.dm_named.proofs.reading.words.prim_word_at.Goals as goal

pub returns-in-Unsupported : goal.returns-in-Unsupported
returns-in-Unsupported c =
    let text = c.args.text.now in
    record {
      word = tt;
      of_kinds = tt;
      here = tt;
      within = tt;
      forward = tt;
      before = tt;
      none = rw (← c.skip-here.ensures.rest) (no_a_word (prim_words_of c.args.kinds) (drop c.skip-here.result text) c.word_at-next.result.0.now (drop c.word_at-next.result.1 text) c.word_at-next.ensures.word c.in-Unsupported.ensures.1);
    }

pub returns-in-Other : goal.returns-in-Other
returns-in-Other c =
    let text = c.args.text.now in
    record {
      word = tt;
      of_kinds = tt;
      here = tt;
      within = tt;
      forward = tt;
      before = tt;
      none = rw (← c.skip-here.ensures.rest) (no_a_word (prim_words_of c.args.kinds) (drop c.skip-here.result text) c.word_at-next.result.0.now (drop c.word_at-next.result.1 text) c.word_at-next.ensures.word c.in-Other.ensures.0);
    }

use Rattle.std.proofs.Common.{drop, refl}
use Rattle.std.proofs.lemmas.Result.{err_from_is_err_and}
use Rattle.dm_bundle.specs.Patches.{infos_of}
use Rattle.dm_bundle.specs.Faults.{in_new, in_context, no_context}
use Rattle.dm_bundle.proofs.PatchesLemmas.{new_wrong}
use Rattle.dm_bundle.proofs.ContextLemmas.{same_context, same_fault, other_word, context_here}
use Rattle.dm_bundle.proofs.reading.sections_at.Goals as goal

pub returns-then-not-is_context_word-clause-err : goal.returns-then-not-is_context_word-clause-err
returns-then-not-is_context_word-clause-err g c =
    let text = c.args.text.now in
    let s = c.in_ok-patches.field-0 in
    let here = drop c.skip-here.result text in
    in_new (new_wrong c.args.limits _ (drop c.args.new text) (drop s.end text) here here s.patches.items c.in_ok-patches.ensures.ok c.in_ok-patches.ensures.few c.skip-here.ensures.rest
    (no_context refl refl (rw c.skip-here.ensures.rest c.in_ok-patches.ensures.closed) (other_word here c.word_at-after_word.result.0.now (drop c.word_at-after_word.result.1 text) c.word_at-after_word.ensures.word c.if-not-is_context_word.ensures)))

pub returns-in_err-context-clause-err : goal.returns-in_err-context-clause-err
returns-in_err-context-clause-err g c =
    let text = c.args.text.now in
    let s = c.in_ok-patches.field-0 in
    let p = err_from_is_err_and c.from_residual-in_err-context.result c.from_residual-in_err-context.ensures.1 in
    let after_word = drop c.word_at-after_word.result.1 text in
    let word = context_here (drop s.end text) (drop c.skip-here.result text) c.word_at-after_word.result.0.now after_word c.skip-here.ensures.rest c.word_at-after_word.ensures.word c.if-not-is_context_word.ensures in
    rw (p.1, p.2) (in_context s.patches.items (drop s.end text) after_word c.in_ok-patches.ensures.ok c.in_ok-patches.ensures.few word
    (same_fault c.in_err-context.field-0.0.kind s.known (infos_of s.patches.items) after_word (drop c.in_err-context.field-0.0.at text) c.in_ok-patches.ensures.known c.in_err-context.ensures.err))

pub without_doubles-requires : goal.without_doubles-requires
without_doubles-requires g c =
    let s = c.in_ok-patches.field-0 in
    let after_word = drop c.word_at-after_word.result.1 c.args.text.now in
    record { distinct = c.in_ok-patches.ensures.ok.distinct; apart = (same_context s.known (infos_of s.patches.items) after_word c.in_ok-context.context.items (drop c.in_ok-context.behind c.args.text.now) c.in_ok-patches.ensures.known c.in_ok-context.ensures.ok).stands.apart }

pub returns-clause-ok : goal.returns-clause-ok
returns-clause-ok g c =
    let text = c.args.text.now in
    let s = c.in_ok-patches.field-0 in
    let after_word = drop c.word_at-after_word.result.1 text in
    let context = same_context s.known (infos_of s.patches.items) after_word c.in_ok-context.context.items (drop c.in_ok-context.behind text) c.in_ok-patches.ensures.known c.in_ok-context.ensures.ok in
    rw c.without_doubles.ensures (record {
      stands = record {
        between = drop s.end text;
        after_word = after_word;
        patches = c.in_ok-patches.ensures.ok;
        word = context_here (drop s.end text) (drop c.skip-here.result text) c.word_at-after_word.result.0.now after_word c.skip-here.ensures.rest c.word_at-after_word.ensures.word c.if-not-is_context_word.ensures;
        context = context.stands;
      };
      behind = context.behind;
    })

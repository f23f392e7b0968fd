use Rattle.std.proofs.Common.{drop, ◌∙◌, sym}
use Rattle.dm_named.proofs.PreferenceLemmas.{empty_nil, no_name, no_first_line, no_blank, no_second_line}
use Rattle.dm_named.proofs.reading.preferences.values_at.Goals as goal

pub returns-then-is_empty-clause-none : goal.returns-then-is_empty-clause-none
returns-then-is_empty-clause-none c =
    let text = c.args.text.now in
    no_name (drop c.args.at text) c.word_at-after.result.0.now (drop c.word_at-after.result.1 text) c.word_at-after.ensures.word (empty_nil c.word_at-after.result.0.now (sym c.is_empty.ensures ∙ c.if-is_empty.true))

pub returns-in_err-blank-clause-none : goal.returns-in_err-blank-clause-none
returns-in_err-blank-clause-none c =
    let text = c.args.text.now in
    rw c.from_residual.ensures (no_first_line (drop c.args.at text) c.word_at-after.result.0.now (drop c.word_at-after.result.1 text) c.word_at-after.ensures.word c.in_err-blank.ensures.none)

pub returns-then-not-is_blank-clause-none : goal.returns-then-not-is_blank-clause-none
returns-then-not-is_blank-clause-none c =
    let text = c.args.text.now in
    no_blank (drop c.args.at text) c.word_at-after.result.0.now (drop c.word_at-after.result.1 text) c.in_ok-blank.blank.now (drop c.in_ok-blank.olds text) c.word_at-after.ensures.word c.in_ok-blank.ensures.found c.if-not-is_blank.ensures

pub returns-in_err-old-clause-none : goal.returns-in_err-old-clause-none
returns-in_err-old-clause-none c =
    let text = c.args.text.now in
    rw c.from_residual-in_err-old.ensures
    (no_second_line (drop c.args.at text) c.word_at-after.result.0.now (drop c.word_at-after.result.1 text) c.in_ok-blank.blank.now (drop c.in_ok-blank.olds text) c.word_at-after.ensures.word c.in_ok-blank.ensures.found c.in_err-old.ensures.none)

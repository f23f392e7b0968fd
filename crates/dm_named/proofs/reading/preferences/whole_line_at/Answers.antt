use Rattle.std.proofs.Common.{drop, sym, ◌∙◌}
use Rattle.std.proofs.lemmas.List.{length-drop}
use Rattle.dm_named.proofs.PreferenceLemmas.{whole_line, no_whole_line}
use Rattle.dm_named.proofs.reading.preferences.whole_line_at.Goals as goal

pub returns-clause-found : goal.returns-clause-found
returns-clause-found c =
    let text = c.args.text.now in
    whole_line (drop c.args.at text) c.line_at-next.result.0.now (drop c.line_at-next.result.1 text) c.line_at-next.ensures.line (λ e. c.if-line-text.false (e ∙ length-drop c.args.at text))

pub returns-then-line-text-clause-none : goal.returns-then-line-text-clause-none
returns-then-line-text-clause-none c =
    let text = c.args.text.now in
    no_whole_line (drop c.args.at text) c.line_at-next.result.0.now (drop c.line_at-next.result.1 text) c.line_at-next.ensures.line (c.if-line-text.true ∙ sym (length-drop c.args.at text))

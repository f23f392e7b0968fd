use Rattle.std.proofs.Common.{drop, sym, ◌∙◌}
use Rattle.dm_named.specs.Words.{EndsWord}
use Rattle.dm_named.proofs.WordLemmas.{word_stands, ends_last, ends_here}
use Rattle.dm_named.proofs.text.word_at.Goals as goal
use Rattle.dm_named.proofs.text.word_at.Goals.{then-loop-end-test+else-not-is_white, else-loop-end-test}

pub returns-clause-word : goal.returns-clause-word
returns-clause-word c =
    let ends : EndsWord (drop c.loop-end.end c.args.text.now) = elim c.loop-end-test.branch [
      | then-loop-end-test+else-not-is_white w ↦ ends_here c.args.text.now c.loop-end.end w.loop-end-test.true (sym w.is_white.ensures ∙ w.if-not-is_white.false)
      | else-loop-end-test w ↦ ends_last c.args.text.now c.loop-end.end w.loop-end-test.false
    ] in
    word_stands c.args.text.now c.args.at c.loop-end.end c.loop-end.invariant.0 c.loop-end.invariant.1 c.loop-end.invariant.2 ends

use Rattle.std.proofs.Common.{drop}
use Rattle.dm_bundle.proofs.HeadingLemmas.{heading_over, no_heading, heading_on, heading_here, line_further}
use Rattle.dm_bundle.proofs.heading.heading_at.Goals as goal

pub loop-at-smaller : goal.loop-at-smaller
loop-at-smaller c = line_further c.args.text.now c.loop-at.at c.line_at-next.result.1 c.line_at-next.result.0.now c.loop-at-test.true c.line_at-next.ensures.within c.line_at-next.ensures.line

pub loop-at-preserved : goal.loop-at-preserved
loop-at-preserved c =
    let text = c.args.text.now in
    let l = c.line_at-next.result.0.now in (
      c.line_at-next.ensures.within,
      (λ r h. c.loop-at.invariant.1 r (heading_on (drop c.loop-at.at text) l (drop c.line_at-next.result.1 text) r c.line_at-next.ensures.line c.if-is_heading.ensures h)),
      (λ r h. heading_over (drop c.loop-at.at text) l (drop c.line_at-next.result.1 text) r c.line_at-next.ensures.line c.if-is_heading.ensures (c.loop-at.invariant.2 r h)),
    )

pub returns-clause-none : goal.returns-clause-none
returns-clause-none c = λ r h. no_heading c.args.text.now c.loop-at.at r c.loop-at-test.false (c.loop-at.invariant.2 r h)

pub returns-then-is_heading-clause-some : goal.returns-then-is_heading-clause-some
returns-then-is_heading-clause-some c =
    let text = c.args.text.now in
    c.loop-at.invariant.1 (drop c.line_at-next.result.1 text) (heading_here (drop c.loop-at.at text) (drop c.line_at-next.result.1 text) c.line_at-next.result.0.now c.line_at-next.ensures.line c.if-is_heading.ensures)

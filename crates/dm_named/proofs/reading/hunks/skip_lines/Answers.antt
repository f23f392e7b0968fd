use Rattle.std.proofs.Common.{◌++◌, ◌∷◌, [], drop, ◌+◌, arith}
use Rattle.dm_named.proofs.GroupLemmas.{lines_more}
use Rattle.dm_named.proofs.reading.hunks.skip_lines.Goals as goal

pub loop-at-preserved : goal.loop-at-preserved
loop-at-preserved c =
    let text = c.args.text.now in
    let so = c.loop-at.invariant.2 in (
      omega (arith, c.loop-at.invariant.0, c.line_at-next.ensures.forward),
      c.line_at-next.ensures.within,
      (
        so.0 ++ c.line_at-next.result.0.now ∷ [],
        lines_more 32 (drop c.args.start text) so.0 (drop c.loop-at.at text) (drop (c.loop-at.at + 1) text) c.line_at-next.result.0.now (drop c.line_at-next.result.1 text) so.1 c.loop-at-test.ensures.0 c.line_at-next.ensures.line,
      ),
    )

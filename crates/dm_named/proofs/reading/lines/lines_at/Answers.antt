use Rattle.std.proofs.Common.{drop, ◌+◌, arith}
use Rattle.dm_named.proofs.ValidParts.{plain_line}
use Rattle.dm_named.proofs.GroupLemmas.{lines_more}
use Rattle.dm_named.proofs.reading.lines.lines_at.Goals as goal

pub push_plain-requires : goal.push_plain-requires
push_plain-requires g c = plain_line c.line_at-next.result.0.now c.line_at-next.ensures.line.free

pub loop-line-preserved : goal.loop-line-preserved
loop-line-preserved g c =
    let text = c.args.text.now in
    let so = c.loop-line.invariant.2 in (
      omega (arith, c.loop-line.invariant.0, c.line_at-next.ensures.forward),
      c.line_at-next.ensures.within,
      rw c.in_ok-push_plain.ensures.ok (lines_more c.args.byte (drop c.args.start text) c.loop-line.lines (drop c.loop-line.at text) (drop (c.loop-line.at + 1) text) c.line_at-next.result.0.now (drop c.line_at-next.result.1 text) so c.loop-line-test.ensures.0 c.line_at-next.ensures.line),
    )

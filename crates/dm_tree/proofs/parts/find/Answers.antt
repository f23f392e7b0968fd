use Rattle.std.proofs.Common.{◌≤◌, ◌∙◌, sym, subst, arith}
use Rattle.dm_tree.proofs.Joined.{passed, has_line, has_none}
use Rattle.dm_tree.proofs.parts.find.Goals as goal

pub loop-part-preserved : goal.loop-part-preserved
loop-part-preserved g c =
    omega (arith, c.loop-part.invariant, passed c.args.parts.now c.loop-part.part c.index-parts-part.result c.loop-part-test.true c.index-parts-part.is, c.len.ensures, c.len-line.ensures, c.if-line-len.false)

pub returns-then-line-len : goal.returns-then-line-len
returns-then-line-len g c = has_line c.args.parts.now c.args.at c.loop-part.part c.loop-part.line c.len.result c.index-parts-part.result c.loop-part-test.true c.index-parts-part.is c.len.ensures c.if-line-len.true c.loop-part.invariant

pub overflow_sub-line : goal.overflow_sub-line
overflow_sub-line g c = subst (λ n. n ≤ c.loop-part.line) (c.len.ensures ∙ sym c.len-line.ensures) c.if-line-len.false

pub returns : goal.returns
returns g c = has_none c.args.parts.now c.args.at c.loop-part.part c.loop-part.line c.loop-part-test.false c.loop-part.invariant

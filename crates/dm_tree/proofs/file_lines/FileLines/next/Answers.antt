use Rattle.std.proofs.Common.{◌∙◌, sym, arith}
use Rattle.dm_tree.proofs.Cursors.{next_here, next_later, next_nowhere}
use Rattle.dm_tree.proofs.file_lines.FileLines.next.Goals as goal

pub loop-part-init : goal.loop-part-init
loop-part-init g c = (rw c.if-self.false at c.self.view_is, c.if-self.false)

pub invariant_of-self-then-self-len : goal.invariant_of-self-then-self-len
invariant_of-self-then-self-len g c e = absurd (let k = sym e ∙ c.loop-part.invariant.1 in cc)

pub returns-then-self-len-clause-line : goal.returns-then-self-len-clause-line
returns-then-self-len-clause-line g c =
    let n = c.loop-part.self-inside.line in
    let all = c.loop-part.self-inside.parts.now in
    rw c.loop-part.invariant.1 (sym c.loop-part.invariant.0 ∙ next_here all c.in-Some.part.now c.in-Some.rest.now n c.in-Some.ensures.cases.0 c.line-line.result.now (omega (arith, c.if-self-len.true, c.len.ensures)) c.line-line.ensures)

pub loop-part-smaller : goal.loop-part-smaller
loop-part-smaller g c = omega (arith, c.in-Some.ensures.cases.1)

pub loop-part-preserved : goal.loop-part-preserved
loop-part-preserved g c =
    let n = c.loop-part.self-inside.line in
    let all = c.loop-part.self-inside.parts.now in
    let later = next_later all c.in-Some.part.now c.in-Some.rest.now n c.in-Some.ensures.cases.0 (omega (arith, c.if-self-len.false, c.len.ensures)) in
    (rw c.len-in-Some.ensures (sym later ∙ c.loop-part.invariant.0), c.loop-part.invariant.1)

pub returns-clause-line : goal.returns-clause-line
returns-clause-line g c = sym c.loop-part.invariant.0 ∙ next_nowhere c.loop-part.self-inside.parts.now c.loop-part.self-inside.line c.in_default.ensures.cases

pub returns-clause-end : goal.returns-clause-end
returns-clause-end g c = rw c.loop-part.invariant.1 (next_nowhere c.loop-part.self-inside.parts.now c.loop-part.self-inside.line c.in_default.ensures.cases)

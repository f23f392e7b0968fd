use Rattle.std.proofs.Common.{◌∙◌, ◌++◌, ap, sym, append-nil}
use Rattle.dm_tree.specs.Trees.{Lines}
use Rattle.dm_prim.proofs.TurnedLines.{plain_line, one_more}
use Rattle.dm_prim.proofs.turning.copy_lines.Goals as goal

pub loop-line-init : goal.loop-line-init
loop-line-init g c = rw c.in_ok-copy.ensures c.lines-lines.ensures.value

pub push_plain-requires : goal.push_plain-requires
push_plain-requires g c = plain_line c.args.file.now c.loop-line.copy c.next.new.self c.loop-line.lines c.in-Some.line.now c.loop-line.invariant c.in-Some.ensures.line c.lines-lines.ensures.plain

pub loop-line-preserved : goal.loop-line-preserved
loop-line-preserved g c =
    ap (λ (z : Lines). z ++ c.next.new.self) c.in_ok-push_plain.ensures.ok ∙ one_more c.args.file.now c.loop-line.copy c.next.new.self c.loop-line.lines c.in-Some.line.now c.loop-line.invariant c.in-Some.ensures.line

pub returns : goal.returns
returns g c = sym (append-nil c.loop-line.copy) ∙ ap (λ (z : Lines). c.loop-line.copy ++ z) (sym c.in_default.ensures.line) ∙ c.loop-line.invariant

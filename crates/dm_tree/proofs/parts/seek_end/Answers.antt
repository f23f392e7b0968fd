use Rattle.std.proofs.Common.{◌-◌, ◌∙◌, arith, ap, length, []}
use Rattle.std.proofs.lemmas.List.{get_or_default}
use Rattle.dm_tree.proofs.Joined.{later, seek_fits, seek_here, seek_some, not_behind, behind_fits, behind_line}
use Rattle.dm_tree.proofs.parts.seek_end.Goals as goal

pub returns-clause-order : goal.returns-clause-order
returns-clause-order g c =
    let ps = c.args.parts.now in
    let k = c.args.from.part in
    let l = c.requires.from in
    let here = ap length (c.index-parts-from.is ∙ get_or_default ps k c.index-parts-from.result [] l.0) in
    omega (arith, later ps (c.args.end - 1) k c.in-Some.last.part c.in-Some.last.line l.0 (omega (arith, here, l.2, c.len.ensures, c.if-line-len.false, c.requires.order)) c.in-Some.ensures)

pub overflow_add-line : goal.overflow_add-line
overflow_add-line g c = seek_fits c.args.parts.now c.args.start c.args.end c.args.from.part c.args.from.line c.requires.from c.requires.order c.ranges.end

pub returns-then-line-len-clause-to : goal.returns-then-line-len-clause-to
returns-then-line-len-clause-to g c = seek_here c.args.parts.now c.args.start c.args.end c.args.from.part c.args.from.line c.requires.from c.requires.order c.index-parts-from.result c.len.result c.index-parts-from.is c.len.ensures c.if-line-len.true

pub overflow_sub-end : goal.overflow_sub-end
overflow_sub-end g c = seek_some c.args.parts.now c.args.start c.args.end c.args.from.part c.args.from.line c.requires.from c.requires.order c.index-parts-from.result c.len.result c.index-parts-from.is c.len.ensures c.if-line-len.false

pub unreachable-requires : goal.unreachable-requires
unreachable-requires g c =
    let some = seek_some c.args.parts.now c.args.start c.args.end c.args.from.part c.args.from.line c.requires.from c.requires.order c.index-parts-from.result c.len.result c.index-parts-from.is c.len.ensures c.if-line-len.false in
    not_behind _ c.args.end some c.requires.within c.in_default.ensures

pub overflow_add-result : goal.overflow_add-result
overflow_add-result g c =
    let some = seek_some c.args.parts.now c.args.start c.args.end c.args.from.part c.args.from.line c.requires.from c.requires.order c.index-parts-from.result c.len.result c.index-parts-from.is c.len.ensures c.if-line-len.false in
    behind_fits c.args.parts.now c.args.end c.in-Some.last.part c.in-Some.last.line some c.in-Some.ensures c.ranges.end

pub returns-clause-to : goal.returns-clause-to
returns-clause-to g c =
    let some = seek_some c.args.parts.now c.args.start c.args.end c.args.from.part c.args.from.line c.requires.from c.requires.order c.index-parts-from.result c.len.result c.index-parts-from.is c.len.ensures c.if-line-len.false in
    behind_line c.args.parts.now c.args.end c.in-Some.last.part c.in-Some.last.line some c.in-Some.ensures

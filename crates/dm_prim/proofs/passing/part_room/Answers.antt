use Rattle.std.proofs.Common.{◌≡◌, ◌+◌, ◌-◌, ◌<◌, length, take, drop, sym, subst, arith, take-append-drop}
use Rattle.std.specs.Prelude.{sum_by}
use Rattle.dm_tree.specs.Trees.{Lines}
use Rattle.dm_tokens.specs.Sets.{in_table}
use Rattle.dm_tokens.specs.Turning.{TurnAll}
use Rattle.dm_prim.specs.Table.{most_passed}
use Rattle.dm_prim.proofs.TurnedLines.{less_room, lines_behind, next_line, size_past}
use Rattle.dm_prim.proofs.passing.part_room.Goals as goal

pub returns-in_default : goal.returns-in_default
returns-in_default g c =
    let lines = c.args.lines.now in
    let i = c.loop-i.i in
    let x = c.line.result.now in
    let there : i < length lines = omega (arith, c.loop-i-test.true, c.len-i-end.ensures.value) in
    size_past lines (take i lines) (drop (i + 1) lines) (drop i lines) x (take-append-drop i lines) (lines_behind lines i x there c.line.ensures) (in_table c.args.set.now) c.args.old.now c.args.new.now
    most_passed c.loop-i.room c.loop-i.invariant (λ y h. let l = c.in_default.ensures y h in omega (arith, l))

pub returns-then-left-eq0 : goal.returns-then-left-eq0
returns-then-left-eq0 g c =
    let lines = c.args.lines.now in
    let i = c.loop-i.i in
    let x = c.line.result.now in
    let there : i < length lines = omega (arith, c.loop-i-test.true, c.len-i-end.ensures.value) in
    size_past lines (take i lines) (drop (i + 1) lines) (drop i lines) x (take-append-drop i lines) (lines_behind lines i x there c.line.ensures) (in_table c.args.set.now) c.args.old.now c.args.new.now
    most_passed c.loop-i.room c.loop-i.invariant (λ y h. let l = c.in-Some.ensures y h in omega (arith, l, c.if-left-eq0.true))

pub loop-i-preserved : goal.loop-i-preserved
loop-i-preserved g c =
    let s = in_table c.args.set.now in
    let x = c.line.result.now in
    let there : c.loop-i.i < length c.args.lines.now = omega (arith, c.loop-i-test.true, c.len-i-end.ensures.value) in
    let next = next_line c.args.lines.now c.loop-i.i x there c.line.ensures in
    let some : 0 < c.in-Some.left = omega (arith, c.if-left-eq0.false) in
    subst (λ (z : Lines). (ys : Lines) → TurnAll s c.args.old.now c.args.new.now z ys → (c.in-Some.left - 1) + (sum_by length ys + length ys) ≡ most_passed) (sym next)
    (less_room s c.args.old.now c.args.new.now (take c.loop-i.i c.args.lines.now) x most_passed c.loop-i.room c.in-Some.left c.loop-i.invariant c.in-Some.ensures some)

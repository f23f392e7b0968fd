use Rattle.std.proofs.Common.{◌≡◌, ◌+◌, ◌<◌, ◌∙◌, ◌++◌, ◌∷◌, [], length, ap, sym, subst, append-nil, arith}
use Rattle.std.specs.Prelude.{sum_by}
use Rattle.dm_tree.specs.Trees.{Lines}
use Rattle.dm_tokens.specs.Sets.{in_table}
use Rattle.dm_tokens.specs.Turning.{TurnAll}
use Rattle.dm_prim.specs.Limits.{most_turned}
use Rattle.dm_prim.proofs.TurnedLines.{all_fit, grows_past, less_room, none_left, one_more}
use Rattle.dm_prim.proofs.turning.turned_room.Goals as goal

pub loop-line-init : goal.loop-line-init
loop-line-init g c = ([], c.lines-lines.ensures.value, λ ys h. let none = none_left (in_table c.args.set.now) c.args.old.now c.args.new.now ys h in omega (arith, none.0, none.1))

pub returns-in_default-room_after : goal.returns-in_default-room_after
returns-in_default-room_after g c =
    grows_past c.args.file.now c.loop-line.invariant.0 c.next.new.self c.loop-line.lines c.in-Some.line.now c.loop-line.invariant.1 c.in-Some.ensures.line (in_table c.args.set.now) c.args.old.now c.args.new.now
    c.loop-line.room c.loop-line.invariant.2 (λ y h. let l = c.in_default-room_after.ensures y h in omega (arith, l))

pub returns-then-left-eq0 : goal.returns-then-left-eq0
returns-then-left-eq0 g c =
    grows_past c.args.file.now c.loop-line.invariant.0 c.next.new.self c.loop-line.lines c.in-Some.line.now c.loop-line.invariant.1 c.in-Some.ensures.line (in_table c.args.set.now) c.args.old.now c.args.new.now
    c.loop-line.room c.loop-line.invariant.2 (λ y h. let l = c.in-Some-room_after.ensures y h in omega (arith, l, c.if-left-eq0.true))

pub loop-line-preserved : goal.loop-line-preserved
loop-line-preserved g c =
    let done = c.loop-line.invariant.0 in
    let x = c.in-Some.line.now in
    let some : 0 < c.in-Some-room_after.left = omega (arith, c.if-left-eq0.false) in (
      done ++ x ∷ [],
      one_more c.args.file.now done c.next.new.self c.loop-line.lines x c.loop-line.invariant.1 c.in-Some.ensures.line,
      less_room (in_table c.args.set.now) c.args.old.now c.args.new.now done x (most_turned + 1) c.loop-line.room c.in-Some-room_after.left c.loop-line.invariant.2 c.in-Some-room_after.ensures some,
    )

pub returns : goal.returns
returns g c =
    let s = in_table c.args.set.now in
    let done = c.loop-line.invariant.0 in
    let all : done ≡ c.args.file.now = sym (append-nil done) ∙ ap (λ (z : Lines). done ++ z) (sym c.in_default.ensures.line) ∙ c.loop-line.invariant.1 in
    all_fit s c.args.old.now c.args.new.now c.args.file.now c.loop-line.room c.lines-lines.ensures.some
    (subst (λ (z : Lines). (ys : Lines) → TurnAll s c.args.old.now c.args.new.now z ys → c.loop-line.room + (sum_by length ys + length ys) ≡ most_turned + 1) all c.loop-line.invariant.2)

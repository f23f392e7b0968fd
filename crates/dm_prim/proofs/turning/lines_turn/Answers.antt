use Rattle.std.proofs.Common.{◌≡◌, ◌∙◌, ◌++◌, ◌∷◌, [], ap, sym, subst, append-nil}
use Rattle.dm_tree.specs.Trees.{Lines}
use Rattle.dm_tokens.specs.Sets.{in_table}
use Rattle.dm_tokens.specs.Turning.{TurnsAs}
use Rattle.dm_prim.proofs.TurnedLines.{TurnSo, is_among, one_more, stays_so, turn_as, turns_so}
use Rattle.dm_prim.proofs.turning.lines_turn.Goals as goal

pub loop-line-init : goal.loop-line-init
loop-line-init g c = ([], c.lines-lines.ensures.value, tt)

pub loop-line-preserved-in-Same : goal.loop-line-preserved-in-Same
loop-line-preserved-in-Same g c =
    let s = in_table c.args.set.now in
    let x = c.in-Some.line.now in
    let done = c.loop-line.invariant.0 in
    let left = one_more c.args.file.now done c.next.new.self c.loop-line.lines x c.loop-line.invariant.1 c.in-Some.ensures.line in
    (done ++ x ∷ [], left, stays_so s c.args.old.now c.args.new.now done x c.loop-line.turned c.loop-line.invariant.2 (subst (λ t. TurnsAs s c.args.old.now c.args.new.now x t) c.in-Same.is c.turns.ensures))

pub loop-line-preserved : goal.loop-line-preserved
loop-line-preserved g c =
    let s = in_table c.args.set.now in
    let x = c.in-Some.line.now in
    let done = c.loop-line.invariant.0 in
    let left = one_more c.args.file.now done c.next.new.self c.loop-line.lines x c.loop-line.invariant.1 c.in-Some.ensures.line in
    let k = subst (λ t. TurnsAs s c.args.old.now c.args.new.now x t) c.in-Other.is c.turns.ensures in
    (done ++ x ∷ [], left, turns_so s c.args.old.now c.args.new.now done x c.loop-line.turned c.loop-line.invariant.2 k.0 k.1 k.2)

pub returns-in-Nothing-clause-turned : goal.returns-in-Nothing-clause-turned
returns-in-Nothing-clause-turned g c =
    let s = in_table c.args.set.now in
    let x = c.in-Some.line.now in
    let h = subst (λ t. TurnsAs s c.args.old.now c.args.new.now x t) c.in-Nothing.is c.turns.ensures in
    (h.0, (x, is_among c.args.file.now c.loop-line.invariant.0 c.next.new.self c.loop-line.lines x c.loop-line.invariant.1 c.in-Some.ensures.line, h.1))

pub returns-clause-turned : goal.returns-clause-turned
returns-clause-turned g c =
    let s = in_table c.args.set.now in
    let all : c.loop-line.invariant.0 ≡ c.args.file.now = sym (append-nil c.loop-line.invariant.0) ∙ ap (λ (z : Lines). c.loop-line.invariant.0 ++ z) (sym c.in_default.ensures.line) ∙ c.loop-line.invariant.1 in
    turn_as s c.args.old.now c.args.new.now c.args.file.now c.loop-line.turned (subst (λ (z : Lines). TurnSo s c.args.old.now c.args.new.now z c.loop-line.turned) all c.loop-line.invariant.2)

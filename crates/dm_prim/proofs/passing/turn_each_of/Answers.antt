use Rattle.std.proofs.Common.{◌≡◌, ◌∙◌, ◌<◌, ◌+◌, ◌++◌, List, ℕ, length, take, drop, ap, sym, subst, arith, take-append-drop}
use Rattle.dm_tree.specs.Trees.{Lines}
use Rattle.dm_tree.specs.Validity.{IsPlain}
use Rattle.dm_tokens.specs.Sets.{in_table}
use Rattle.dm_tokens.specs.Turning.{TurnAll, Turns}
use Rattle.dm_prim.proofs.TurnedLines.{line_turns, lines_behind, next_line, turned_plain, zip_more}
use Rattle.dm_prim.proofs.passing.turn_each_of.Goals as goal

pub unreachable-requires : goal.unreachable-requires
unreachable-requires g c =
    let lines = c.args.lines.now in
    let i = c.loop-i.i in
    let x = c.line.result.now in
    let there : i < length lines = omega (arith, c.loop-i-test.true, c.len-i-end.ensures.value) in
    let y = line_turns lines (take i lines) (drop (i + 1) lines) (drop i lines) x (take-append-drop i lines) (lines_behind lines i x there c.line.ensures) (in_table c.args.set.now) c.args.old.now c.args.new.now
    c.requires.turn.0 c.requires.turn.1 in
    let none = rw c.if-not-branch.true at c.in_ok-turn_into.ensures.nothing in
    absurd (none.0 y.0 y.1)

pub push_plain-requires : goal.push_plain-requires
push_plain-requires g c =
    let lines = c.args.lines.now in
    let i = c.loop-i.i in
    let x = c.line.result.now in
    let there : i < length lines = omega (arith, c.loop-i-test.true, c.len-i-end.ensures.value) in
    let t = rw c.if-not-branch.false at c.in_ok-turn_into.ensures.turned in
    let made : c.deref.result.now ≡ t.0 = c.deref.ensures.value ∙ t.2 ∙ ap (λ (z : List ℕ). z ++ t.0) c.clear.ensures.items in
    subst (λ (z : List ℕ). IsPlain z) (sym made) (turned_plain lines (take i lines) (drop (i + 1) lines) (drop i lines) x (take-append-drop i lines) (lines_behind lines i x there c.line.ensures) (in_table c.args.set.now)
    c.args.old.now c.args.new.now t.0 c.len-i-end.ensures.valid c.requires.no_newline c.requires.token t.1)

pub loop-i-preserved : goal.loop-i-preserved
loop-i-preserved g c =
    let s = in_table c.args.set.now in
    let x = c.line.result.now in
    let done = take c.loop-i.i c.args.lines.now in
    let there : c.loop-i.i < length c.args.lines.now = omega (arith, c.loop-i-test.true, c.len-i-end.ensures.value) in
    let next = next_line c.args.lines.now c.loop-i.i x there c.line.ensures in
    let t = rw c.if-not-branch.false at c.in_ok-turn_into.ensures.turned in
    let made : c.deref.result.now ≡ t.0 = c.deref.ensures.value ∙ t.2 ∙ ap (λ (z : List ℕ). z ++ t.0) c.clear.ensures.items in
    subst (λ (z : Lines). TurnAll s c.args.old.now c.args.new.now z c.push_plain.new.self) (sym next)
    (rw (c.in_ok-push_plain.ensures.ok, made) (zip_more (Turns s c.args.old.now c.args.new.now) done c.loop-i.turned x t.0 c.loop-i.invariant t.1))

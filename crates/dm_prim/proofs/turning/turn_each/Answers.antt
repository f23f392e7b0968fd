use Rattle.std.proofs.Common.{◌≡◌, ◌∙◌, ◌++◌, ◌∷◌, [], List, ℕ, ap, sym, subst, append-nil}
use Rattle.dm_tree.specs.Trees.{Lines}
use Rattle.dm_tree.specs.Validity.{IsPlain}
use Rattle.dm_tokens.specs.Sets.{in_table}
use Rattle.dm_tokens.specs.Turning.{TurnAll, Turns}
use Rattle.dm_prim.proofs.TurnedLines.{line_turns, one_more, turned_plain, zip_more}
use Rattle.dm_prim.proofs.turning.turn_each.Goals as goal

pub loop-line-init : goal.loop-line-init
loop-line-init g c = ([], c.lines-lines.ensures.value, subst (λ (z : Lines). TurnAll (in_table c.args.set.now) c.args.old.now c.args.new.now [] z) (sym c.in_ok-turned.ensures) tt)

pub unreachable-requires : goal.unreachable-requires
unreachable-requires g c =
    let y = line_turns c.args.file.now c.loop-line.invariant.0 c.next.new.self c.loop-line.lines c.in-Some.line.now c.loop-line.invariant.1 c.in-Some.ensures.line (in_table c.args.set.now) c.args.old.now c.args.new.now c.requires.turn.0 c.requires.turn.1 in
    let none = rw c.if-not-branch.true at c.in_ok-turn_into.ensures.nothing in
    absurd (none.0 y.0 y.1)

pub push_plain-requires : goal.push_plain-requires
push_plain-requires g c =
    let t = rw c.if-not-branch.false at c.in_ok-turn_into.ensures.turned in
    let made : c.deref.result.now ≡ t.0 = c.deref.ensures.value ∙ t.2 ∙ ap (λ (z : List ℕ). z ++ t.0) c.clear.ensures.items in
    subst (λ (z : List ℕ). IsPlain z) (sym made) (turned_plain c.args.file.now c.loop-line.invariant.0 c.next.new.self c.loop-line.lines c.in-Some.line.now c.loop-line.invariant.1 c.in-Some.ensures.line (in_table c.args.set.now) c.args.old.now c.args.new.now
    t.0 c.lines-lines.ensures.plain c.requires.no_newline c.requires.token t.1)

pub loop-line-preserved : goal.loop-line-preserved
loop-line-preserved g c =
    let t = rw c.if-not-branch.false at c.in_ok-turn_into.ensures.turned in
    let made : c.deref.result.now ≡ t.0 = c.deref.ensures.value ∙ t.2 ∙ ap (λ (z : List ℕ). z ++ t.0) c.clear.ensures.items in
    let x = c.in-Some.line.now in
    let done = c.loop-line.invariant.0 in (
      done ++ x ∷ [],
      one_more c.args.file.now done c.next.new.self c.loop-line.lines x c.loop-line.invariant.1 c.in-Some.ensures.line,
      rw (c.in_ok-push_plain.ensures.ok, made) (zip_more (Turns (in_table c.args.set.now) c.args.old.now c.args.new.now) done c.loop-line.turned x t.0 c.loop-line.invariant.2 t.1),
    )

pub returns : goal.returns
returns g c =
    let done = c.loop-line.invariant.0 in
    let all : done ≡ c.args.file.now = sym (append-nil done) ∙ ap (λ (z : Lines). done ++ z) (sym c.in_default.ensures.line) ∙ c.loop-line.invariant.1 in
    subst (λ (z : Lines). TurnAll (in_table c.args.set.now) c.args.old.now c.args.new.now z c.loop-line.turned) all c.loop-line.invariant.2

use Rattle.std.proofs.Common.{rules, ◌<◌, ◌≤◌, ◌-◌, ◌≡◌, [], true, false, refl, sym, ap, ◌∙◌, length, arith}
use borrow.Author.Rules.{scaled_Fits}
use Rattle.std.proofs.lemmas.List.{drop_all}
use Rattle.dm_prim.specs.Rectangles.{empty}
use Rattle.dm_repo.specs.Squares.{Placed, PlacedCommutes}
use Rattle.dm_repo.proofs.AskedRows.{set_same, ask_pass, ask_pass_stop}
use Rattle.dm_repo.proofs.sifting.would_pass_all.Goals as goal

pub loop-k-init : goal.loop-k-init
loop-k-init g c = record { same = refl; passed = ([], rw (drop_all (length c.args.rest.now) c.args.rest.now (omega arith)) empty) }

pub offset_bounds-rest-k : goal.offset_bounds-rest-k
offset_bounds-rest-k g c =
    let o : 0 < c.loop-k.k = c.loop-k-test.true in
    let l : c.loop-k.k ≤ length c.args.rest.now = c.loop-k.auto.k in
    let h : (c.loop-k.k - 1) < length c.args.rest.now = omega (arith, o, l) in
    scaled_Fits _ _ _ h (search rules)

pub returns-then-not-branch-clause-row : goal.returns-then-not-branch-clause-row
returns-then-not-branch-clause-row g c =
    let no : c.in_ok-would_pass.field-0 ≡ false = c.if-not-branch.true in
    let x = c.index-rest-k.result in
    (x, ap (λ (p : Placed). p.0) (c.would_pass.ensures.same ∙ sym c.index-rest-k.is), ask_pass_stop PlacedCommutes c.args.rest.now c.loop-k.rest c.loop-k.k x c.loop-k-test.true c.loop-k.auto.k c.loop-k.invariant.same c.index-rest-k.is c.loop-k.invariant.passed.1 (rw no at c.in_ok-would_pass.ensures.square))

pub loop-k-preserved : goal.loop-k-preserved
loop-k-preserved g c =
    let yes : c.in_ok-would_pass.field-0 ≡ true = c.if-not-branch.false in
    let x = c.index-rest-k.result in
    let s = rw yes at c.in_ok-would_pass.ensures.square in
    let before = c.loop-k.invariant in
    record {
      same = set_same c.args.rest.now c.loop-k.rest (c.loop-k.k - 1) c.would_pass.new.next x before.same c.would_pass.ensures.same;
      passed = (_, ask_pass PlacedCommutes c.args.rest.now c.loop-k.rest c.loop-k.k x c.loop-k-test.true c.loop-k.auto.k before.same c.index-rest-k.is before.passed.1 s.1);
    }

pub returns-clause-row : goal.returns-clause-row
returns-clause-row g c = let z : c.loop-k.k ≡ 0 = omega (arith, c.loop-k-test.false) in rw z at c.loop-k.invariant.passed

pub returns-in_err-would_pass-clause-same : goal.returns-in_err-would_pass-clause-same
returns-in_err-would_pass-clause-same g c = set_same c.args.rest.now c.loop-k.rest (c.loop-k.k - 1) c.would_pass.new.next c.index-rest-k.result c.loop-k.invariant.same c.would_pass.ensures.same

pub returns-then-not-branch-clause-same : goal.returns-then-not-branch-clause-same
returns-then-not-branch-clause-same g c = set_same c.args.rest.now c.loop-k.rest (c.loop-k.k - 1) c.would_pass.new.next c.index-rest-k.result c.loop-k.invariant.same c.would_pass.ensures.same
